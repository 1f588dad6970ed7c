use Prim.Native.Nat.{◌-◌}
use Rattle.model.specs.Limits.{ROWS}
use Rattle.run.specs.Layout.{table_of}
use Rattle.sets_of_rows.specs.First.{next}
use Rattle.sets_of_rows.specs.Walk.{Walk}
use Rattle.sets_location.specs.Adds.{AddsRow, parts_of}
use Rattle.sets_location.specs.Put.{cut}
use Rattle.sets_location.proofs.put_parts.Given as goal

abbrev pub invariant-loop-y : goal.invariant-loop-y
invariant-loop-y l = Walk l.fn.to l.y-iterator.left × AddsRow l.t.rows l.x (cut (parts_of (table_of l.t) l.x l.fn.to) (next l.y-iterator.left)) l.initial.w l.w
