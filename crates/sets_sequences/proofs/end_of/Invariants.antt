use Prim.Native.Nat.{◌-◌}
use Rattle.model.specs.Limits.{ROWS}
use Rattle.run.specs.Layout.{table_of}
use Rattle.sets_of_rows.specs.First.{next}
use Rattle.sets_of_rows.specs.Walk.{Walk}
use Rattle.sets_sequences.specs.Heads.{EndsTo}
use Rattle.sets_sequences.proofs.end_of.Given as goal

abbrev pub invariant-loop-z : goal.invariant-loop-z
invariant-loop-z l = Walk l.initial.z-iterator.left l.z-iterator.left × EndsTo (table_of l.t) l.h (next l.z-iterator.left) l.end
