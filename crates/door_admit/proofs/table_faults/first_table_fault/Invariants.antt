use mathlib.Core.Path.{◌≡◌}
use Prim.Native.Nat.{◌≤◌}
use Rattle.finite.specs.Below.{least}
use Rattle.model.specs.Table.{decode, source_of}
use Rattle.model.specs.Refusal.{faulty}
use Rattle.model.specs.TableFault.{table_fault}
use Rattle.door_admit.specs.Rows.{ranks}
use Rattle.door_admit.proofs.table_faults.first_table_fault.Given as goal

abbrev pub invariant-loop-i : goal.invariant-loop-i
invariant-loop-i l = (l.i ≤ l.n) × (least l.i (faulty (table_fault l.blanks (decode l.rows l.p (ranks l.counted) l.n) (source_of l.rows))) ≡ l.i)
