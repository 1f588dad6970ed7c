use mathlib.Core.Path.{◌≡◌}
use mathlib.Core.Bool.{false}
use Prim.Native.Nat.{◌≤◌}
use Rattle.finite.specs.Below.{any_below}
use Rattle.run.specs.Layout.{table_of}
use Rattle.model.specs.Synchronizes.{arrives}
use Rattle.run_rows.proofs.control.is_arrived.Given as goal

abbrev pub invariant-loop-d : goal.invariant-loop-d
invariant-loop-d l = (l.d ≤ l.t.rows) × (any_below l.d (arrives (table_of l.t) l.b l.c) ≡ false)
