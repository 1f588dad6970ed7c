use Rattle.std.proofs.Common.{ℕ, ◌+◌, ◌*◌, ap₂, rules}
use Rattle.model.specs.Header.{ROW_BYTES, rows_end}
use Rattle.door_rows.proofs.bytes.rows_end.Goals as goal

pub returns : goal.returns
unfolding rows_end
returns c = (ap₂ (λ (m n : ℕ). m + ROW_BYTES * n) c.rows_begin.ensures.0 c.rows_at.ensures, search rules)
