use mathlib.Core.Path.{◌≡◌}
use mathlib.Core.Bool.{false}
use mathlib.Core.List.{[]}
use Prim.Native.Nat.{◌≤◌}
use Rattle.finite.specs.Below.{any_below}
use Rattle.model.specs.TableFault.{begins}
use Rattle.model.specs.Table.{OFF, decode}
use Rattle.door_admit.proofs.table_faults.any_begins.Given as goal

abbrev pub invariant-loop-m : goal.invariant-loop-m
invariant-loop-m l = (l.m ≤ l.i) × (any_below l.m (begins (decode l.rows [] OFF 0) l.i) ≡ false)
