use Rattle.run.specs.Layout.{rows_in}
use Rattle.flags_location.specs.Domains.{seen_bits}
use Rattle.finite.specs.Below.{any_below}
use Prim.Native.Nat.{◌≤◌}
use mathlib.Core.Bool.{false}
use mathlib.Core.Path.{◌≡◌}
use Rattle.flags_location.proofs.domains.is_seen.Given as goal

abbrev pub invariant-loop-i : goal.invariant-loop-i
invariant-loop-i l = (l.i ≤ l.t.rows) × (any_below l.i (seen_bits (rows_in l.t.bytes) l.w l.p.kind l.p.x l.p.y) ≡ false)
