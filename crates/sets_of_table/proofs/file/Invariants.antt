use mathlib.Core.Path.{◌≡◌}
use Prim.Native.Nat.{◌*◌, ◌≤◌}
use lib.ListN.{length}
use Rattle.model.specs.Table.{row_of}
use Rattle.run.specs.Layout.{rows_in}
use Rattle.bits.specs.Within.{Within}
use Rattle.sets_of_rows.specs.Family.{Family}
use Rattle.sets_of_table.specs.Filed.{FILED, filed}
use Rattle.sets_of_table.proofs.file.Given as goal

abbrev pub invariant-loop-i : goal.invariant-loop-i
invariant-loop-i l = (l.i ≤ l.t.rows) × (length l.s ≡ length l.initial.s) × Family 0 FILED (filed (row_of (rows_in l.t.bytes)) l.i) l.s × Within 0 (2 * FILED) l.initial.s l.s
