use Rattle.run.specs.Layout.{table_of}
use mathlib.Core.Path.{◌≡◌}
use mathlib.Core.Bool.{false}
use Prim.Native.Nat.{◌≤◌}
use Rattle.finite.specs.Below.{any_below}
use Rattle.flags_location.specs.Chains.{carried_by}
use Rattle.flags_location.proofs.chains.some_carried.Given as goal

abbrev pub invariant-loop-a : goal.invariant-loop-a
invariant-loop-a l = (l.a ≤ l.t.rows) × (any_below l.a (carried_by (table_of l.t) l.p.x l.p.y l.p.b) ≡ false)
