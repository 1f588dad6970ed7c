use Prim.Native.Nat.{◌-◌}
use Rattle.model.specs.Limits.{ROWS}
use Rattle.run.specs.Layout.{table_of}
use Rattle.bits.specs.Within.{Within}
use Rattle.sets_of_rows.specs.First.{next}
use Rattle.sets_of_rows.specs.Walk.{Walk}
use Rattle.sets_grids.specs.Regions.{TAKEN, TAKEN_END}
use Rattle.sets_sequences.specs.Taken.{TakenTo}
use Rattle.sets_sequences.proofs.taken.fill_taken.Given as goal

abbrev pub invariant-loop-y : goal.invariant-loop-y
invariant-loop-y l = Within TAKEN TAKEN_END l.initial.w l.w × (Walk l.initial.y-iterator.left l.y-iterator.left × TakenTo (table_of l.t) l.t.rows (next l.y-iterator.left) l.w)
