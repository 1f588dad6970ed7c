use Prim.Native.Nat.{◌-◌}
use Rattle.model.specs.Limits.{ROWS}
use Rattle.run.specs.Layout.{table_of}
use Rattle.bits.specs.Bit.{bit_of}
use Rattle.sets_of_rows.specs.First.{next}
use Rattle.sets_of_rows.specs.Walk.{Walk}
use Rattle.sets_location.specs.Bytes.{MoreTo, byte_seen}
use Rattle.sets_location.proofs.part.bytes_seen.Given as goal

abbrev pub invariant-loop-a : goal.invariant-loop-a
invariant-loop-a l = Walk l.fn.g.parts l.a-iterator.left × MoreTo (bit_of l.initial.m) (byte_seen (table_of l.t) l.w l.x l.wide l.plain l.fn.g.parts) l.m (next l.a-iterator.left)
