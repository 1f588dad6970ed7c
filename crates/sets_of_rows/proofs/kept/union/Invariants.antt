use Rattle.sets_of_rows.specs.Tasks.{leads}
use Rattle.sets_of_rows.specs.Walk.{Walk, Gathered}
use Rattle.sets_of_rows.specs.First.{next}
use Rattle.sets_of_rows.proofs.kept.union.Given as goal

abbrev pub invariant-loop-i : goal.invariant-loop-i
invariant-loop-i l = Walk l.fn.x l.i-iterator.left × Gathered (leads l.w l.base l.fn.x) l.r (next l.i-iterator.left)
