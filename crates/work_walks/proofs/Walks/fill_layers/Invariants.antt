-- `fill_layers` meets its contract: layers up to k are done, the later ones empty. Assumes nothing.
use mathlib.Core.Path.{◌≡◌}
use Prim.Native.Nat.{◌≤◌}
use lib.ListN.{length}
use Rattle.work_walks.proofs.Rounds.{Rounds}
use Rattle.work_walks.proofs.Walks.fill_layers.Given as goal

abbrev pub invariant-loop-k : goal.invariant-loop-k
invariant-loop-k g l = (l.k ≤ l.n) × (length l.w ≡ length l.initial.w) × Rounds l.self.steps l.self.layers g.row.STRIDE l.n l.x l.initial.w l.w l.k
