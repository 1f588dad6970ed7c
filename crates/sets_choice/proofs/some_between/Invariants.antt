use mathlib.Core.Path.{◌≡◌}
use Prim.Native.Nat.{◌-◌}
use Rattle.finite.specs.Below.{least}
use Rattle.model.specs.Limits.{ROWS}
use Rattle.run.specs.Layout.{table_of}
use Rattle.sets_of_rows.specs.First.{next}
use Rattle.sets_of_rows.specs.Walk.{Walk}
use Rattle.sets_choice.specs.Choosing.{between_in}
use Rattle.sets_choice.proofs.some_between.Given as goal

abbrev pub invariant-loop-z : goal.invariant-loop-z
invariant-loop-z l = Walk l.initial.z-iterator.left l.z-iterator.left × (least (next l.z-iterator.left) (between_in (table_of l.t) l.t.rows l.blank.y l.source) ≡ next l.z-iterator.left)
