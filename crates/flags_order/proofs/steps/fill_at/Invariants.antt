use mathlib.Core.Path.{◌≡◌}
use Prim.Native.Nat.{◌*◌, ◌≤◌}
use lib.ListN.{length}
use Rattle.flags_order.specs.Steps.{RowMade}
use Rattle.flags_order.proofs.steps.fill_at.Given as goal

abbrev pub invariant-loop-k : goal.invariant-loop-k
invariant-loop-k l = (l.k ≤ 3 * l.t.rows) × (length l.w ≡ length l.initial.w) × RowMade l.t.bytes l.t.rows l.s l.m l.k l.initial.w l.w
