use mathlib.Core.Path.{sym, ◌∙◌}
use Rattle.finite.specs.Logic.{◌and◌}
use Rattle.flags_location.specs.Reach.{broadens_is, broadens_off}
use Rattle.flags_location.proofs.reach.broadens_at.Goals as goal

pub returns-then-not-has_flag : goal.returns-then-not-has_flag
returns-then-not-has_flag c = sym (broadens_off _ _ _ _ _ _ (sym c.has_flag.ensures ∙ c.if-not-has_flag.true))

pub returns : goal.returns
unfolding ◌and◌
returns c =
    sym (broadens_is c.requires
    c.row-s.ensures c.row-u.ensures
    c.available_part-k.ensures c.available_part-m.ensures
    c.availability_of.ensures c.is_broader.ensures c.happens_bit.ensures)
