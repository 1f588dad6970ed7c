use Rattle.run.specs.Layout.{rows_in}
use Rattle.flags_location.specs.Domains.{operation_at}
use Rattle.finite.specs.Below.{any_below}
use Prim.Native.Nat.{◌≤◌}
use mathlib.Core.Bool.{false}
use mathlib.Core.Path.{◌≡◌}
use Rattle.flags_location.proofs.hosted.has_operation.Given as goal

abbrev pub invariant-loop-i : goal.invariant-loop-i
invariant-loop-i l = (l.i ≤ l.t.rows) × (any_below l.i (operation_at (rows_in l.t.bytes)) ≡ false)
