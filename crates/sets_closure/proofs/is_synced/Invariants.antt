use mathlib.Core.Path.{◌≡◌}
use Prim.Native.Nat.{◌-◌}
use Rattle.finite.specs.Below.{least}
use Rattle.model.specs.Limits.{ROWS}
use Rattle.run.specs.Layout.{table_of}
use Rattle.sets_of_rows.specs.First.{next}
use Rattle.sets_of_rows.specs.Walk.{Walk}
use Rattle.sets_closure.specs.Widest.{synced_from}
use Rattle.sets_closure.proofs.is_synced.Given as goal

abbrev pub invariant-loop-a : goal.invariant-loop-a
invariant-loop-a l = Walk l.fn.k.releases l.a-iterator.left × (least (next l.a-iterator.left) (synced_from (table_of l.t) l.t.rows l.k) ≡ next l.a-iterator.left)
