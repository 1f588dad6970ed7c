use Prim.Native.Nat.{◌-◌}
use Rattle.model.specs.Limits.{ROWS}
use Rattle.run.specs.Layout.{table_of}
use Rattle.sets_of_rows.specs.First.{next}
use Rattle.sets_of_rows.specs.Walk.{Walk}
use Rattle.sets_of_rows.specs.Sift.{Sifted}
use Rattle.sets_control.specs.Passed.{same_start}
use Rattle.sets_control.proofs.instance.Given as goal

abbrev pub invariant-loop-d : goal.invariant-loop-d
invariant-loop-d l = Walk l.initial.d-iterator.left l.d-iterator.left × Sifted l.initial.d-iterator.left (same_start (table_of l.t) l.c) l.all (next l.d-iterator.left)
