use mathlib.Core.Path.{◌≡◌}
use mathlib.Core.Bool.{false}
use Prim.Native.Nat.{◌≤◌}
use Rattle.finite.specs.Below.{any_below}
use Rattle.run.specs.Layout.{rows_in}
use Rattle.run_rows.specs.Cases.{holds_at}
use Rattle.flags_order.proofs.is_live.Given as goal

abbrev pub invariant-loop-i : goal.invariant-loop-i
invariant-loop-i l = (l.i ≤ l.t.rows) × (any_below l.i (holds_at (rows_in l.t.bytes) l.s) ≡ false) × (l.s ≡ 1 → ⊥)
