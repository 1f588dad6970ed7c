use native.Mathlib.Omega.{arith}
use mathlib.Core.Path.{refl, sym, ◌∙◌}
use Rattle.std.proofs.lemmas.Result.{err_from_is_err_and}
use Rattle.door_admit.proofs.Laws.{fault_counts}
use Rattle.model_laws.specs.AdmissionLaws.{answer_same, refusal_is}
use Rattle.door_write.specs.ValueLaws.{values_fit, agents_few, rows_few, after_few}
use Rattle.door_write.proofs.Laws.{few_bytes, front_is, front_size, answer_is, values_refused, refused_both, written_both, refused_out, short_is, long_is}
use borrow.Author.Rules.{rules}
use Rattle.door_write.proofs.write.Goals as goal

pub returns-in_err-values_fault : goal.returns-in_err-values_fault
returns-in_err-values_fault c =
    let p = err_from_is_err_and c.from_residual.result c.from_residual.ensures.1 in
    rw (p.1, p.2)
    (refused_both _ _ _ _ _ (values_refused _ _ _ _ _ _ _ _ c.in_err-values_fault.ensures (fault_counts _)))

pub encode_table-t-requires : goal.encode_table-t-requires
encode_table-t-requires c =
    let f = values_fit _ _ _ _ _ (sym c.in_ok-values_fault.ensures) in
    (agents_few f, rows_few f, after_few f)

pub slice_bounds-t-end : goal.slice_bounds-t-end
slice_bounds-t-end c =
    let k = few_bytes _ _ _ _ _ _ 0 _ c.in_ok-values_fault.ensures refl _ _
    c.table_size-size.ensures.0 c.encode_table-t.ensures in
    search rules

pub slice_bounds-admit-end : goal.slice_bounds-admit-end
slice_bounds-admit-end c = front_size _ _ _ _ _ _ 0 _ c.in_ok-values_fault.ensures
    refl _ _ c.table_size-size.ensures.0 c.encode_table-t.ensures

pub returns-in_default : goal.returns-in_default
returns-in_default c =
    let said = answer_same _ _ (c.of-a.ensures ∙ c.admit.ensures) in
    refused_out _ _ _ _ (answer_is _ _ _ _ _ _ _ _
    c.in_ok-values_fault.ensures
    refl _ _
    c.table_size-size.ensures.0
    c.encode_table-t.ensures _ said) _ _ _ (refusal_is c.refusal_of.ensures c.in_default.is)

pub returns-then-out-size : goal.returns-then-out-size
returns-then-out-size c =
    rw c.into.ensures
    (refused_both _ _ _ _ _ (short_is _ _ _ _
    (answer_is _ _ _ _ _ _ _ _ c.in_ok-values_fault.ensures
    refl _ _
    c.table_size-size.ensures.0
    c.encode_table-t.ensures _ (answer_same _ _ (c.of-a.ensures ∙ c.admit.ensures))) _ _
    c.in-Admitted.is c.if-out-size.true))

pub put-requires : goal.put-requires
put-requires c =
    let k = few_bytes _ _ _ _ _ _ 0 _ c.in_ok-values_fault.ensures refl _ _
    c.table_size-size.ensures.0
    c.encode_table-t.ensures in
    (omega (arith, c.if-out-size.false), search rules)

pub overflow_cast-result : goal.overflow_cast-result
overflow_cast-result c =
    let k = few_bytes _ _ _ _ _ _ 0 _ c.in_ok-values_fault.ensures refl _ _ c.table_size-size.ensures.0
    c.encode_table-t.ensures in
    omega arith

pub returns : goal.returns
returns c =
    written_both _ _ _ _ _ _ (long_is _ _ _ _
    (answer_is _ _ _ _ _ _ _ _ c.in_ok-values_fault.ensures refl _ _ c.table_size-size.ensures.0
    c.encode_table-t.ensures _ (answer_same _ _ (c.of-a.ensures ∙ c.admit.ensures))) _ _
    c.in-Admitted.is c.if-out-size.false)
    c.put.ensures (front_is _ _ _ _ _ _ 0 _
    c.in_ok-values_fault.ensures
    refl _ _
    c.table_size-size.ensures.0
    c.encode_table-t.ensures)
