use Prim.Native.Nat.{◌-◌}
use Rattle.model.specs.Limits.{ROWS}
use Rattle.run.specs.Layout.{table_of}
use Rattle.sets_of_rows.specs.First.{next}
use Rattle.sets_location.specs.Seen.{Seeing}
use Rattle.sets_location.proofs.part.seen.Given as goal

abbrev pub invariant-loop-v : goal.invariant-loop-v
invariant-loop-v l = Seeing (table_of l.t) l.t.rows l.plain l.initial.left l.all l.left

abbrev pub decreases-loop-v : goal.decreases-loop-v
decreases-loop-v l = ROWS - next l.left
