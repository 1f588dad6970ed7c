use mathlib.Core.Path.{◌≡◌}
use mathlib.Core.Bool.{false}
use Prim.Native.Nat.{◌≤◌}
use Rattle.finite.specs.Below.{any_below}
use Rattle.run.specs.Layout.{table_of}
use Rattle.model.specs.Synchronizes.{passes}
use Rattle.run_rows.proofs.control.is_passed.Given as goal

abbrev pub invariant-loop-c : goal.invariant-loop-c
invariant-loop-c l = (l.c ≤ l.t.rows) × (any_below l.c (passes (table_of l.t) l.a l.b) ≡ false)
