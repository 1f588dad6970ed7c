use Prim.Native.Nat.{◌-◌}
use Rattle.model.specs.Limits.{ROWS}
use Rattle.sets_of_rows.specs.First.{next}
use Rattle.sets_of_rows.specs.Walk.{Walk}
use Rattle.sets_of_rows.specs.Sift.{Sifted}
use Rattle.sets_choice.specs.Choosing.{in_column}
use Rattle.sets_choice.proofs.writers_before.Given as goal

abbrev pub invariant-loop-z : goal.invariant-loop-z
invariant-loop-z l = Walk l.initial.z-iterator.left l.z-iterator.left × Sifted l.initial.z-iterator.left (in_column l.w l.y) l.all (next l.z-iterator.left)
