use mathlib.Core.Path.{◌≡◌}
use Prim.Native.Nat.{◌-◌}
use Rattle.finite.specs.Below.{least}
use Rattle.model.specs.Limits.{ROWS}
use Rattle.sets_of_rows.specs.First.{next}
use Rattle.sets_of_rows.specs.Walk.{Walk}
use Rattle.sets_order.specs.Down.{upward_from}
use Rattle.sets_order.proofs.leads_down.Given as goal

abbrev pub invariant-loop-a : goal.invariant-loop-a
invariant-loop-a l = Walk l.fn.x l.a-iterator.left × (least (next l.a-iterator.left) (upward_from l.w l.base l.fn.x) ≡ next l.a-iterator.left)
