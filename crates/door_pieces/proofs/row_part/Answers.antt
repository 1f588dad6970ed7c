use mathlib.Core.Path.{sym, ◌∙◌}
use native.Mathlib.Nat.{add-sub_cancel_left}
use Rattle.door_admit.proofs.Laws.{fault_found, fault_missed}
use Rattle.door_pieces.specs.PiecesLaws.{first_end, second_end, part_refused, part_first, part_second, part_past}
use Rattle.door_pieces.proofs.row_part.Goals as goal

pub returns-then-is_err : goal.returns-then-is_err
returns-then-is_err c = sym (part_refused _ _ _ _ c.early_fault.ensures (fault_found _ (sym c.is_err.ensures.value ∙ c.if-is_err.true)))

pub slice_bounds-result-end-then-i-rows : goal.slice_bounds-result-end-then-i-rows
slice_bounds-result-end-then-i-rows c =
    first_end _ _ _ _ _ _ c.early_fault.ensures (fault_missed _ (sym c.is_err.ensures.value ∙ c.if-is_err.false)) c.rows_at-rows.ensures
    c.if-i-rows.true c.rows_begin.ensures.0

pub returns-then-i-rows : goal.returns-then-i-rows
returns-then-i-rows c =
    sym (part_first _ _ _ _ c.early_fault.ensures (fault_missed _ (sym c.is_err.ensures.value ∙ c.if-is_err.false)) _ c.rows_at-rows.ensures
    c.if-i-rows.true ∙ rw (← c.rows_begin.ensures.0) (simp add-sub_cancel_left))

pub slice_bounds-result-end-then-i-rows_both : goal.slice_bounds-result-end-then-i-rows_both
slice_bounds-result-end-then-i-rows_both c =
    second_end _ _ _ _ _ c.rows_at-rows.ensures c.if-i-rows.false c.rows_both.ensures c.if-i-rows_both.true

pub returns-then-i-rows_both : goal.returns-then-i-rows_both
returns-then-i-rows_both c =
    sym (part_second _ _ _ _ c.early_fault.ensures (fault_missed _ (sym c.is_err.ensures.value ∙ c.if-is_err.false)) _ c.rows_at-rows.ensures _
    c.rows_both.ensures c.if-i-rows.false c.if-i-rows_both.true ∙ simp add-sub_cancel_left)

pub returns : goal.returns
returns c =
    sym (part_past _ _ _ _ c.early_fault.ensures (fault_missed _ (sym c.is_err.ensures.value ∙ c.if-is_err.false)) _ c.rows_at-rows.ensures _
    c.rows_both.ensures c.if-i-rows.false c.if-i-rows_both.false)
