use mathlib.Core.Path.{sym, ◌∙◌}
use Rattle.finite.specs.Logic.{◌and◌}
use Rattle.flags_location.specs.Reach.{narrows_is, narrows_off}
use Rattle.flags_location.proofs.reach.narrows_at.Goals as goal

pub returns-then-not-has_flag : goal.returns-then-not-has_flag
returns-then-not-has_flag c = sym (narrows_off _ _ _ _ _ _ (sym c.has_flag.ensures ∙ c.if-not-has_flag.true))

pub returns : goal.returns
unfolding ◌and◌
returns c =
    sym (narrows_is c.requires
    c.row-u.ensures c.row-s.ensures
    c.visible_part-k.ensures c.visible_part-m.ensures c.visibility_of.ensures
    c.is_broader.ensures c.happens_bit.ensures)
