use Rattle.run.specs.Layout.{table_of}
use mathlib.Core.Path.{◌≡◌}
use mathlib.Core.Bool.{false}
use Prim.Native.Nat.{◌≤◌}
use Rattle.finite.specs.Below.{any_below}
use Rattle.flags_location.specs.Chains.{starts_with}
use Rattle.flags_location.proofs.chains.some_start.Given as goal

abbrev pub invariant-loop-j : goal.invariant-loop-j
invariant-loop-j l = (l.j ≤ l.t.rows) × (any_below l.j (starts_with (table_of l.t) l.p.x l.p.y l.i l.v) ≡ false)
