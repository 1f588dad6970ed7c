use Prim.Native.Nat.{◌-◌}
use Rattle.model.specs.Limits.{ROWS}
use Rattle.run.specs.Layout.{table_of}
use Rattle.sets_of_rows.specs.First.{next}
use Rattle.sets_chains.specs.Availability.{Making}
use Rattle.sets_chains.proofs.fill_availability.Given as goal

abbrev pub invariant-loop-a : goal.invariant-loop-a
invariant-loop-a l = Making (table_of l.t) l.t.rows l.chains l.s l.initial.a-iterator.left l.initial.w l.a-iterator.left l.w
