use Prim.Native.Nat.{◌-◌}
use Rattle.model.specs.Limits.{ROWS}
use Rattle.run.specs.Layout.{table_of}
use Rattle.sets_of_rows.specs.First.{next}
use Rattle.sets_overlap.specs.Overlap.{Meeting}
use Rattle.sets_overlap.proofs.meet.Given as goal

abbrev pub invariant-loop-i : goal.invariant-loop-i
invariant-loop-i l = Meeting (table_of l.t) l.t.rows l.unmet l.near

abbrev pub decreases-loop-i : goal.decreases-loop-i
decreases-loop-i l = ROWS - next l.unmet
