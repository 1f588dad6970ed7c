use mathlib.Core.Path.{sym, ◌∙◌}
use Rattle.std.proofs.lemmas.Result.{err_from_is_err_and}
use Rattle.door_admit.proofs.Laws.{rows_early, rows_late, rows_pass}
use Rattle.door_admit.proofs.admit_rows.Goals as goal

pub returns-in_err-first_row_fault : goal.returns-in_err-first_row_fault
returns-in_err-first_row_fault c =
    let p = err_from_is_err_and c.from_residual.result c.from_residual.ensures.1 in
    rw (p.1, p.2) (sym (rows_early _ _ _ _ _ _ _ (sym c.first_row_fault.ensures ∙ c.in_err-first_row_fault.was)))

pub returns-in_err-first_table_fault : goal.returns-in_err-first_table_fault
returns-in_err-first_table_fault c =
    let p = err_from_is_err_and c.from_residual-in_err-first_table_fault.result c.from_residual-in_err-first_table_fault.ensures.1 in
    rw (p.1, p.2)
    (sym (rows_late _ _ _ _ _ _ _ (sym c.first_row_fault.ensures ∙ c.in_ok-first_row_fault.was)
    (sym c.first_table_fault.ensures ∙ c.in_err-first_table_fault.was)))

pub returns : goal.returns
returns c =
    sym (rows_pass _ _ _ _ _ _ _ (sym c.first_row_fault.ensures ∙ c.in_ok-first_row_fault.was)
    (sym c.first_table_fault.ensures ∙ c.in_ok-first_table_fault.was))
