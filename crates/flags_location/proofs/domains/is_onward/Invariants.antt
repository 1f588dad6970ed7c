use Rattle.run.specs.Layout.{rows_in}
use Rattle.flags_location.specs.Domains.{onward_bits}
use Rattle.finite.specs.Below.{any_below}
use Prim.Native.Nat.{◌≤◌}
use mathlib.Core.Bool.{false}
use mathlib.Core.Path.{◌≡◌}
use Rattle.flags_location.proofs.domains.is_onward.Given as goal

abbrev pub invariant-loop-i : goal.invariant-loop-i
invariant-loop-i l = (l.i ≤ l.t.rows) × (any_below l.i (onward_bits (rows_in l.t.bytes) l.w l.grid.base l.p.kind l.p.x l.p.y) ≡ false)
