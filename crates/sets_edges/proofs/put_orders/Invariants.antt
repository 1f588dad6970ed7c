use mathlib.Core.Path.{◌≡◌}
use Prim.Native.Nat.{◌≤◌}
use lib.ListN.{length}
use Rattle.sets_edges.specs.Edges.{Ordered}
use Rattle.sets_edges.proofs.put_orders.Given as goal

abbrev pub invariant-loop-x : goal.invariant-loop-x
invariant-loop-x l = (l.x ≤ l.n) × (length l.w ≡ length l.initial.w) × Ordered l.x l.initial.w l.w
