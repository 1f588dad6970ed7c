use mathlib.Core.Path.{◌≡◌}
use Prim.Native.Nat.{◌-◌}
use Rattle.model.specs.Limits.{ROWS}
use Rattle.model.specs.Race.{conflict}
use Rattle.model.specs.Report.{conflict_mutual, conflict_ordered}
use Rattle.run.specs.Layout.{table_of}
use Rattle.sets_of_rows.specs.First.{next}
use Rattle.sets_of_rows.specs.Walk.{Walk}
use Rattle.sets_races.specs.Sums.{sum_below, row_count}
use Rattle.sets_races.proofs.count_pairs.Given as goal

abbrev pub invariant-loop-i : goal.invariant-loop-i
invariant-loop-i l = Walk l.initial.i-iterator.left l.i-iterator.left × (l.c.conflicting ≡ sum_below (next l.i-iterator.left) (row_count l.t.rows (conflict (table_of l.t))))
    × (l.c.mutuals ≡ sum_below (next l.i-iterator.left) (row_count l.t.rows (conflict_mutual (table_of l.t))))
    × (l.c.ordered ≡ sum_below (next l.i-iterator.left) (row_count l.t.rows (conflict_ordered (table_of l.t))))
