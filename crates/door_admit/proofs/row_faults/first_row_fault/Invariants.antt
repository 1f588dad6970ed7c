use mathlib.Core.Path.{◌≡◌}
use Prim.Native.Nat.{◌≤◌}
use Rattle.finite.specs.Below.{least}
use Rattle.model.specs.Refusal.{faulty}
use Rattle.door_admit.specs.Rows.{row_fault_in}
use Rattle.door_admit.proofs.row_faults.first_row_fault.Given as goal

abbrev pub invariant-loop-i : goal.invariant-loop-i
invariant-loop-i l = (l.i ≤ l.n) × (least l.i (faulty (row_fault_in l.hosts l.p l.agents l.rows)) ≡ l.i)
