-- `mark_rows` meets its contract: the rows from x on are done. Assumes nothing.
use mathlib.Core.Path.{◌≡◌}
use Prim.Native.Nat.{◌≤◌}
use lib.ListN.{length}
use Rattle.find_cycle.proofs.Marking.{Swept}
use Rattle.find_cycle.proofs.marks.mark_rows.Given as goal

abbrev pub invariant-loop-x : goal.invariant-loop-x
invariant-loop-x l = (l.x ≤ l.n) × (length l.w ≡ length l.initial.w) × Swept l.n l.x l.initial.w l.w
