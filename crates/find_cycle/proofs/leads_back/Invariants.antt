use Rattle.finite.specs.Count.{count_below}
use Rattle.bits.specs.Matrix.{rel}
use Rattle.model.specs.Limits.{ROWS}
use Rattle.work_area.specs.Regions.{EDGE, GRID}
use Rattle.sets_of_rows.specs.Member.{in_set}
use Rattle.find_cycle.proofs.Closing.{Going}
use Rattle.find_cycle.proofs.leads_back.Given as goal

abbrev pub invariant-loop-i : goal.invariant-loop-i
invariant-loop-i l = Going l.n (rel l.w EDGE GRID) l.x l.initial.ahead l.ahead l.left

abbrev pub decreases-loop-i : goal.decreases-loop-i
decreases-loop-i l = count_below ROWS (in_set l.ahead)
