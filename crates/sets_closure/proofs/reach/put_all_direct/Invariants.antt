use Prim.Native.Nat.{◌-◌}
use Rattle.model.specs.Limits.{ROWS}
use Rattle.sets_of_rows.specs.First.{next}
use Rattle.bits.specs.Within.{Within}
use Rattle.sets_grids.specs.Regions.{REACH_AT, REACH_END}
use Rattle.run.specs.Layout.{table_of}
use Rattle.sets_of_rows.specs.Walk.{Walk}
use Rattle.sets_closure.specs.Reaching.{Putting}
use Rattle.sets_closure.proofs.reach.put_all_direct.Given as goal

abbrev pub invariant-loop-h : goal.invariant-loop-h
invariant-loop-h l = Within REACH_AT REACH_END l.initial.w l.w × (Walk l.k.nodes l.h-iterator.left × Putting (table_of l.t) l.t.rows l.k l.initial.w (next l.h-iterator.left) l.w)
