use Rattle.run.specs.Layout.{table_of}
use mathlib.Core.Path.{◌≡◌}
use mathlib.Core.Bool.{false}
use Prim.Native.Nat.{◌+◌, ◌≤◌}
use Rattle.finite.specs.Below.{any_below}
use Rattle.flags_location.specs.Chains.{shown_by}
use Rattle.flags_location.proofs.chains.some_shown.Given as goal

abbrev pub invariant-loop-v : goal.invariant-loop-v
invariant-loop-v l = (l.v ≤ l.p.y + 1) × (any_below l.v (shown_by (table_of l.t) l.p.x l.p.y l.p.b l.i) ≡ false)
