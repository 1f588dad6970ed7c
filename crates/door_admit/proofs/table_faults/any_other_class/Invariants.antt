use mathlib.Core.Path.{◌≡◌}
use mathlib.Core.Bool.{false}
use mathlib.Core.List.{[]}
use Prim.Native.Nat.{ℕ, ◌≤◌, ◌<◌}
use Rattle.model.specs.TableFault.{other_class_at}
use Rattle.model.specs.Table.{OFF, decode}
use Rattle.door_admit.proofs.table_faults.any_other_class.Given as goal

abbrev pub invariant-loop-j : goal.invariant-loop-j
invariant-loop-j l = (l.j ≤ l.i) × ((k : ℕ) → l.j ≤ k → k < l.i → other_class_at (decode l.rows [] OFF 0) l.i k ≡ false)
