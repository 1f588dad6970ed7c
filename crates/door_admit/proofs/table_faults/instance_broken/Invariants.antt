use mathlib.Core.Path.{◌≡◌}
use mathlib.Core.Bool.{false}
use Prim.Native.Nat.{◌≤◌}
use Rattle.finite.specs.Below.{any_below}
use Rattle.model.specs.Row.{CONTROL}
use Rattle.model.specs.TableFault.{apart_at}
use Rattle.model.specs.Table.{OFF, decode}
use Rattle.door_admit.proofs.table_faults.instance_broken.Given as goal

abbrev pub invariant-loop-j : goal.invariant-loop-j
invariant-loop-j l = (l.j ≤ l.i) × (any_below l.j (apart_at (decode l.rows l.p OFF 0) l.i) ≡ false) × (l.r.kind ≡ CONTROL)
