use mathlib.Core.Path.{refl, sym, ◌∙◌}
use borrow.Author.Tests.{not-false}
use Rattle.finite.specs.Logic.{and_false_left, and_on}
use Rattle.flags_location.specs.Chains.{available_small, carried_off, carried_row}
use mathlib.Core.Path.{ap}
use mathlib.Core.Bool.{not}
use Rattle.flags_location.proofs.chains.carried_in.Goals as goal

pub returns-then-not-may_avail : goal.returns-then-not-may_avail
returns-then-not-may_avail c = sym (carried_off c.requires.pair _ _ (sym c.may_avail.ensures ∙ c.if-not-may_avail.true))

pub returns-then-not-available_at : goal.returns-then-not-available_at
returns-then-not-available_at c =
    sym (carried_row c.requires.pair _ _ refl refl (refl, available_small _) c.available_at.ensures
    ∙ and_false_left _ _ c.if-not-available_at.true)

pub returns : goal.returns
returns c =
    c.ends_from.ensures ∙ sym (carried_row c.requires.pair _ _ refl refl (refl, available_small _) c.available_at.ensures
    ∙ and_on _ _ (not-false _ (ap not c.if-not-available_at.false)))
