use mathlib.Core.Path.{sym, ◌∙◌}
use borrow.Author.Tests.{not-false}
use Rattle.finite.specs.Logic.{and_false_left, and_on}
use Rattle.model.specs.Synchronizes.{passes}
use Rattle.model.specs.Table.{decode}
use Rattle.run_rows.specs.Forms.{never_passed}
use mathlib.Core.Path.{ap}
use mathlib.Core.Bool.{not}
use Rattle.run_rows.proofs.control.passes_at.Goals as goal

pub returns-then-not-is_control_at : goal.returns-then-not-is_control_at
unfolding decode
returns-then-not-is_control_at c = sym (never_passed _ _ _ _ (sym c.is_control_at.ensures ∙ c.if-not-is_control_at.true))

pub returns-then-not-is_up_to : goal.returns-then-not-is_up_to
unfolding passes
returns-then-not-is_up_to c = sym (and_false_left _ _ (sym c.is_up_to.ensures ∙ c.if-not-is_up_to.true))

pub returns : goal.returns
unfolding passes decode
returns c = c.is_arrived.ensures ∙ sym (and_on _ _ (sym c.is_up_to.ensures ∙ not-false _ (ap not c.if-not-is_up_to.false)))
