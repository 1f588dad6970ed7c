use mathlib.Core.Path.{sym, ◌∙◌}
use Rattle.finite.specs.Logic.{and_false_right, and_on_right}
use Rattle.model.specs.Synchronizes.{carries_in}
use Rattle.flags_sync.proofs.carriers.carries_in_at.Goals as goal

pub returns-then-not-takes_from_at : goal.returns-then-not-takes_from_at
unfolding carries_in
returns-then-not-takes_from_at c = sym (and_false_right _ _ (sym c.takes_from_at.ensures ∙ c.if-not-takes_from_at.true))

pub returns : goal.returns
unfolding carries_in
returns c = c.trails_at.ensures ∙ sym (and_on_right _ _ (sym c.takes_from_at.ensures ∙ c.if-not-takes_from_at.false))
