use Prim.Native.Nat.{◌-◌}
use Rattle.model.specs.Limits.{ROWS}
use Rattle.run.specs.Layout.{table_of}
use Rattle.sets_of_rows.specs.First.{next}
use Rattle.sets_of_rows.specs.Walk.{Walk}
use Rattle.sets_location.specs.Adds.{whole_bytes}
use Rattle.sets_location.specs.Put.{AddsPairs, cut}
use Rattle.sets_location.proofs.put_whole.Given as goal

abbrev pub invariant-loop-y : goal.invariant-loop-y
invariant-loop-y l = Walk l.fn.to l.y-iterator.left × AddsPairs l.t.rows l.x (cut (whole_bytes (table_of l.t) l.x l.fn.to) (next l.y-iterator.left)) l.initial.w l.w
