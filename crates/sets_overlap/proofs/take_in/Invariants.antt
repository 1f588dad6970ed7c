use Prim.Native.Nat.{◌-◌}
use Rattle.model.specs.Limits.{ROWS}
use Rattle.run.specs.Layout.{table_of}
use Rattle.sets_of_rows.specs.First.{next}
use Rattle.sets_overlap.specs.Overlap.{Turn}
use Rattle.sets_overlap.proofs.take_in.Given as goal

abbrev pub invariant-loop-j : goal.invariant-loop-j
invariant-loop-j l = Turn (table_of l.t) l.t.rows l.i l.own l.rest l.left l.all l.near

abbrev pub decreases-loop-j : goal.decreases-loop-j
decreases-loop-j l = ROWS - next l.left
