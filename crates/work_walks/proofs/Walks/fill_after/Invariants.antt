-- `fill_after` meets its contract: so many bits of the row are written. Assumes nothing.
use mathlib.Core.Path.{◌≡◌}
use Prim.Native.Nat.{◌≤◌}
use lib.ListN.{length}
use Rattle.bits.specs.Fill.{row_fill}
use Rattle.work_walks.specs.Layers.{after, reaches}
use Rattle.work_walks.proofs.Walks.fill_after.Given as goal

abbrev pub invariant-loop-z : goal.invariant-loop-z
invariant-loop-z g l = (l.z ≤ l.n) × (length l.w ≡ length l.initial.w) × (l.w ≡ row_fill (reaches l.initial.w l.self.steps l.self.layers g.row.STRIDE l.n l.k) l.initial.w (after l.self.layers g.row.STRIDE l.k) l.z)
