-- `fill_until` meets its contract: layers up to k are done, the later ones empty, and none after the first has x. Assumes nothing.
use mathlib.Core.Path.{◌≡◌}
use Prim.Native.Nat.{◌≤◌}
use lib.ListN.{length}
use Rattle.finite.specs.Below.{least}
use Rattle.bits.specs.Matrix.{rel}
use Rattle.work_walks.specs.Layers.{back}
use Rattle.work_walks.proofs.Rounds.{Rounds}
use Rattle.work_walks.proofs.Walks.fill_until.Given as goal

abbrev pub invariant-loop-k : goal.invariant-loop-k
invariant-loop-k g l = (l.k ≤ l.n) × (length l.w ≡ length l.initial.w) × Rounds l.self.steps l.self.layers g.row.STRIDE l.n l.x l.initial.w l.w l.k × (least l.k (back l.n (rel l.initial.w l.self.steps g.row.STRIDE) l.x) ≡ l.k)
