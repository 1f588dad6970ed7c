use Prim.Native.Nat.{◌-◌}
use Rattle.model.specs.Limits.{ROWS}
use Rattle.run.specs.Layout.{table_of}
use Rattle.bits.specs.Within.{Within}
use Rattle.sets_of_rows.specs.First.{next}
use Rattle.sets_of_rows.specs.Walk.{Walk}
use Rattle.sets_grids.specs.Regions.{HEADS, HEADS_END}
use Rattle.sets_sequences.specs.Heads.{HeadsTo}
use Rattle.sets_sequences.proofs.fill_heads.Given as goal

abbrev pub invariant-loop-h : goal.invariant-loop-h
invariant-loop-h l = Within HEADS HEADS_END l.initial.w l.w × (Walk l.initial.h-iterator.left l.h-iterator.left × HeadsTo (table_of l.t) l.t.rows (next l.h-iterator.left) l.w)
