use mathlib.Core.Path.{◌≡◌}
use Prim.Native.Nat.{◌-◌}
use Rattle.finite.specs.Below.{least}
use Rattle.bits.specs.Matrix.{rel}
use Rattle.model.specs.Limits.{ROWS}
use Rattle.work_area.specs.Regions.{EDGE, GRID}
use Rattle.sets_of_rows.specs.First.{next}
use Rattle.sets_of_rows.specs.Walk.{Walk}
use Rattle.find_cycle.proofs.Closing.{loop_in}
use Rattle.find_cycle.proofs.first_looping.Given as goal

abbrev pub invariant-loop-x : goal.invariant-loop-x
invariant-loop-x l = Walk l.initial.left l.left × (least (next l.left) (loop_in l.n (rel l.w EDGE GRID)) ≡ next l.left)

abbrev pub decreases-loop-x : goal.decreases-loop-x
decreases-loop-x l = ROWS - next l.left
