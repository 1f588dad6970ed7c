use Prim.Native.Nat.{◌-◌}
use Rattle.model.specs.Limits.{ROWS}
use Rattle.run.specs.Layout.{table_of}
use Rattle.sets_of_rows.specs.First.{next}
use Rattle.sets_of_rows.specs.Walk.{Walk, Gathered}
use Rattle.sets_chains.specs.Filled.{met_to}
use Rattle.sets_chains.proofs.available_to.Given as goal

abbrev pub invariant-loop-c : goal.invariant-loop-c
invariant-loop-c l = Walk l.fn.chain l.c-iterator.left × Gathered (met_to (table_of l.t) l.t.rows l.a l.fn.chain) l.at (next l.c-iterator.left)
