use mathlib.Core.Path.{refl, sym, ◌∙◌}
use borrow.Author.Tests.{not-false}
use Rattle.finite.specs.Logic.{and_false_left, and_on}
use Rattle.flags_location.specs.Chains.{seen_row}
use mathlib.Core.Path.{ap}
use mathlib.Core.Bool.{not}
use Rattle.flags_location.proofs.chains.seen_at.Goals as goal

pub returns-then-not-happens_bit : goal.returns-then-not-happens_bit
returns-then-not-happens_bit c =
    let pre = c.requires in
    sym (seen_row pre.element c.row-s.ensures c.available_part.ensures _ pre.last c.row-u.ensures c.visible_part.ensures
    c.happens_bit.ensures refl refl ∙ and_false_left _ _ c.if-not-happens_bit.true)

pub returns : goal.returns
returns c =
    let pre = c.requires in
    sym (seen_row pre.element c.row-s.ensures c.available_part.ensures _ pre.last c.row-u.ensures
    c.visible_part.ensures c.happens_bit.ensures c.widest.ensures c.meet_in.ensures ∙ and_on _ _ (not-false _ (ap not c.if-not-happens_bit.false)))
