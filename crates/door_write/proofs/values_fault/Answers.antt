use mathlib.Core.Path.{refl, sym, ◌∙◌}
use Rattle.door_write.specs.Answer.{values_fault, numbers_fit}
use Rattle.door_write.proofs.values_fault.Goals as goal

pub returns-then-not-version_known : goal.returns-then-not-version_known
unfolding values_fault
returns-then-not-version_known c = rw (sym c.version_known.ensures ∙ c.if-not-version_known.true) refl

pub returns-then-not-counts_fit : goal.returns-then-not-counts_fit
unfolding values_fault
returns-then-not-counts_fit c = rw (
  sym c.version_known.ensures ∙ c.if-not-version_known.false,
  sym c.counts_fit.ensures ∙ c.if-not-counts_fit.true,
) refl

pub returns-then-any_number_over : goal.returns-then-any_number_over
unfolding values_fault numbers_fit
returns-then-any_number_over c = rw (
  sym c.version_known.ensures ∙ c.if-not-version_known.false,
  sym c.counts_fit.ensures ∙ c.if-not-counts_fit.false,
  sym c.any_number_over.ensures ∙ c.if-any_number_over.true,
) refl

pub returns-then-not-dependencies_fit : goal.returns-then-not-dependencies_fit
unfolding values_fault numbers_fit
returns-then-not-dependencies_fit c = rw (
  sym c.version_known.ensures ∙ c.if-not-version_known.false,
  sym c.counts_fit.ensures ∙ c.if-not-counts_fit.false,
  sym c.any_number_over.ensures ∙ c.if-any_number_over.false,
  sym c.dependencies_fit.ensures ∙ c.if-not-dependencies_fit.true,
) refl

pub returns : goal.returns
unfolding values_fault numbers_fit
returns c = rw (
  sym c.version_known.ensures ∙ c.if-not-version_known.false,
  sym c.counts_fit.ensures ∙ c.if-not-counts_fit.false,
  sym c.any_number_over.ensures ∙ c.if-any_number_over.false,
  sym c.dependencies_fit.ensures ∙ c.if-not-dependencies_fit.false,
) refl
