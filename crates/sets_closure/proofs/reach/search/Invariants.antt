use Rattle.sets_closure.specs.Reaching.{Seeing, unseen}
use Rattle.sets_closure.proofs.reach.search.Given as goal

abbrev pub invariant-loop-j : goal.invariant-loop-j
invariant-loop-j l = Seeing l.h l.nodes l.waiting l.initial.w l.left l.seen l.w

abbrev pub decreases-loop-j : goal.decreases-loop-j
decreases-loop-j l = unseen l.seen
