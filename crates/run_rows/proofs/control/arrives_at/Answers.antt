use mathlib.Core.Path.{sym, ◌∙◌}
use borrow.Author.Tests.{not-false}
use Rattle.finite.specs.Logic.{and_false_left, and_on}
use Rattle.model.specs.Synchronizes.{arrives}
use mathlib.Core.Path.{ap}
use mathlib.Core.Bool.{not}
use Rattle.run_rows.proofs.control.arrives_at.Goals as goal

pub returns-then-not-is_up_to : goal.returns-then-not-is_up_to
unfolding arrives
returns-then-not-is_up_to c = sym (and_false_left _ _ (sym c.is_up_to.ensures ∙ c.if-not-is_up_to.true))

pub returns : goal.returns
unfolding arrives
returns c = c.joins_at.ensures ∙ sym (and_on _ _ (sym c.is_up_to.ensures ∙ not-false _ (ap not c.if-not-is_up_to.false)))
