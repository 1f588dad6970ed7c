use Prim.Native.Nat.{◌-◌}
use Rattle.model.specs.Limits.{ROWS}
use Rattle.run.specs.Layout.{table_of}
use Rattle.sets_of_rows.specs.First.{next}
use Rattle.sets_of_rows.specs.Walk.{Walk, Gathered}
use Rattle.sets_control.specs.Passed.{arrives_by}
use Rattle.sets_control.proofs.arrivals.Given as goal

abbrev pub invariant-loop-k : goal.invariant-loop-k
invariant-loop-k l = Walk l.fn.d l.k-iterator.left × Gathered (arrives_by (table_of l.t) l.t.rows l.fn.d) l.all (next l.k-iterator.left)
