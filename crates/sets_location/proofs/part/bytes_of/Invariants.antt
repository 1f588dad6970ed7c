use Prim.Native.Nat.{◌-◌}
use Rattle.model.specs.Limits.{ROWS}
use Rattle.run.specs.Layout.{table_of}
use Rattle.sets_of_rows.specs.First.{next}
use Rattle.sets_of_rows.specs.Walk.{Walk}
use Rattle.sets_location.specs.Elements.{BitsTo, byte_of}
use Rattle.sets_location.proofs.part.bytes_of.Given as goal

abbrev pub invariant-loop-y : goal.invariant-loop-y
invariant-loop-y l = Walk l.fn.rows l.y-iterator.left × BitsTo (byte_of (table_of l.t) l.x l.fn.rows) l.m (next l.y-iterator.left)
