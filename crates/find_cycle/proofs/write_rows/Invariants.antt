-- `write_rows` meets its contract: i rows are written, and the rest of the trail begins at z. Assumes nothing.
use mathlib.Core.Path.{◌≡◌}
use Prim.Native.Nat.{◌-◌, ◌≤◌, ◌<◌}
use lib.ListN.{length}
use Rattle.finite.specs.Lists.{Written}
use Rattle.finite.specs.Walk.{trail}
use Rattle.bits.specs.Matrix.{rel}
use Rattle.work_area.specs.Regions.{EDGE, GRID}
use Rattle.work_walks.specs.Left.{Left}
use Rattle.find_cycle.proofs.write_rows.Given as goal

abbrev pub invariant-loop-i : goal.invariant-loop-i
invariant-loop-i l = (l.i ≤ l.size) × (l.z < l.n) × (length l.c ≡ length l.initial.c) × Written (trail l.n (rel l.w EDGE GRID) l.x l.size l.x) l.i l.initial.c l.c × Left l.n (rel l.w EDGE GRID) l.x l.size l.x l.i (l.size - l.i) l.z
