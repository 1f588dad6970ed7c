use mathlib.Core.Path.{◌≡◌}
use Prim.Native.Nat.{◌-◌}
use Rattle.model.specs.Limits.{ROWS}
use Rattle.model.specs.Report.{conflict_ordered}
use Rattle.run.specs.Layout.{table_of}
use Rattle.sets_of_rows.specs.First.{next}
use Rattle.sets_of_rows.specs.Walk.{Walk}
use Rattle.sets_races.specs.Sums.{above, sum_below, one_of}
use Rattle.sets_races.proofs.count_ordered.Given as goal

abbrev pub invariant-loop-j : goal.invariant-loop-j
invariant-loop-j l = Walk l.fn.others l.j-iterator.left × (l.count ≡ sum_below (next l.j-iterator.left) (one_of l.t.rows (above (conflict_ordered (table_of l.t)) l.i)))
