-- `layer_of` meets its contract: the number is in no layer so far. Assumes nothing.
use mathlib.Core.Path.{◌≡◌}
use Prim.Native.Nat.{◌≤◌}
use Rattle.finite.specs.Below.{least}
use Rattle.work_walks.specs.Layers.{in_layer}
use Rattle.work_walks.proofs.Walks.layer_of.Given as goal

abbrev pub invariant-loop-j : goal.invariant-loop-j
invariant-loop-j g l = (l.j ≤ l.n) × (least l.j (in_layer l.w l.self.layers g.row.STRIDE l.z) ≡ l.j)
