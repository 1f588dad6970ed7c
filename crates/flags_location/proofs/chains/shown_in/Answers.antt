use mathlib.Core.Path.{refl, sym, ◌∙◌}
use borrow.Author.Tests.{not-false}
use Rattle.finite.specs.Logic.{and_false_left, and_on}
use Rattle.flags_location.specs.Chains.{available_small, visible_small, shown_skip, shown_row}
use mathlib.Core.Path.{ap}
use mathlib.Core.Bool.{not}
use Rattle.flags_location.proofs.chains.shown_in.Goals as goal

pub returns-then-not-may_show : goal.returns-then-not-may_show
returns-then-not-may_show c =
    sym (shown_skip c.requires.element refl (refl, available_small _) _ _ c.requires.last (sym c.may_show.ensures ∙ c.if-not-may_show.true))

pub returns-then-not-visible_at : goal.returns-then-not-visible_at
returns-then-not-visible_at c =
    sym (shown_row c.requires.element.pair _ _ _ refl refl (refl, visible_small _) c.visible_at.ensures
    ∙ and_false_left _ _ c.if-not-visible_at.true)

pub returns : goal.returns
returns c =
    c.starts_at.ensures ∙ sym (shown_row c.requires.element.pair _ _ _ refl refl (refl, visible_small _) c.visible_at.ensures
    ∙ and_on _ _ (not-false _ (ap not c.if-not-visible_at.false)))
