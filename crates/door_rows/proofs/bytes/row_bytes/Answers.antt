use Rattle.std.proofs.Common.{ℕ, ◌*◌, sym, ap}
use Rattle.model.specs.Header.{ROW_BYTES}
use Rattle.door_rows.proofs.Laws.{rows_none, rows_rest, rows_part_lem}
use Rattle.door_rows.proofs.bytes.row_bytes.Goals as goal

pub returns-then-s-at : goal.returns-then-s-at
returns-then-s-at c =
    sym (rows_none _ _ c.rows_begin-at.ensures.0 c.if-s-at.true)

pub returns-then-s-at-2 : goal.returns-then-s-at-2
returns-then-s-at-2 c =
    rows_rest _ _ _ c.rows_begin-at.ensures.0 (ap (λ (n : ℕ). ROW_BYTES * n) c.rows_at.ensures) c.if-s-at-2.true

pub returns : goal.returns
returns c =
    rows_part_lem _ _ _ c.rows_begin-at.ensures.0 (ap (λ (n : ℕ). ROW_BYTES * n) c.rows_at.ensures)
