use Prim.Native.Nat.{◌-◌}
use Rattle.model.specs.Limits.{ROWS}
use Rattle.run.specs.Layout.{table_of}
use Rattle.sets_of_rows.specs.First.{next}
use Rattle.sets_of_rows.specs.Walk.{Walk}
use Rattle.sets_location.specs.Carried.{Grasping}
use Rattle.sets_location.proofs.made_available.Given as goal

abbrev pub invariant-loop-a : goal.invariant-loop-a
invariant-loop-a l = Walk l.initial.a-iterator.left l.a-iterator.left × Grasping (table_of l.t) l.x l.w l.initial.a-iterator.left l.initial.to l.initial.by l.initial.parts l.to l.by l.parts (next l.a-iterator.left)
