use mathlib.Core.Path.{◌≡◌}
use mathlib.Core.Bool.{false}
use Prim.Native.Nat.{◌≤◌}
use Rattle.finite.specs.Below.{any_below}
use Rattle.door_admit.specs.Rows.{outside_in}
use Rattle.door_admit.proofs.table_faults.any_outside.Given as goal

abbrev pub invariant-loop-j : goal.invariant-loop-j
invariant-loop-j l = (l.j ≤ l.i) × (any_below l.j (outside_in l.rows l.r l.f) ≡ false)
