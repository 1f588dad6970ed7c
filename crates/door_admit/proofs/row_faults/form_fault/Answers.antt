use mathlib.Core.Path.{refl, sym, ◌∙◌}
use Rattle.model.specs.RowFault.{form_fault}
use Rattle.door_admit.proofs.row_faults.form_fault.Goals as goal

pub returns-then-not-operation_fits : goal.returns-then-not-operation_fits
unfolding form_fault
returns-then-not-operation_fits c = rw (
  sym c.is_operation.ensures ∙ c.if-is_operation.true,
  sym c.operation_fits.ensures ∙ c.if-not-operation_fits.true,
) refl

pub returns-then-is_operation : goal.returns-then-is_operation
unfolding form_fault
returns-then-is_operation c = rw (
  sym c.is_operation.ensures ∙ c.if-is_operation.true,
  sym c.operation_fits.ensures ∙ c.if-not-operation_fits.false,
) refl

pub returns-then-not-kind_fits : goal.returns-then-not-kind_fits
unfolding form_fault
returns-then-not-kind_fits c = rw (
  sym c.is_operation.ensures ∙ c.if-is_operation.false,
  sym c.kind_fits.ensures ∙ c.if-not-kind_fits.true,
) refl

pub returns-then-not-extent_fits : goal.returns-then-not-extent_fits
unfolding form_fault
returns-then-not-extent_fits c = rw (
  sym c.is_operation.ensures ∙ c.if-is_operation.false,
  sym c.kind_fits.ensures ∙ c.if-not-kind_fits.false,
  sym c.extent_fits.ensures ∙ c.if-not-extent_fits.true,
) refl

pub returns : goal.returns
unfolding form_fault
returns c = rw (
  sym c.is_operation.ensures ∙ c.if-is_operation.false,
  sym c.kind_fits.ensures ∙ c.if-not-kind_fits.false,
  sym c.extent_fits.ensures ∙ c.if-not-extent_fits.false,
) refl
