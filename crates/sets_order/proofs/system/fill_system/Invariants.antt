use Rattle.run.specs.Layout.{table_of}
use Rattle.bits.specs.Within.{Within}
use Rattle.model_closing.specs.Sets.{reached_at}
use Rattle.sets_grids.specs.Regions.{SYSTEM, SYSTEM_END}
use Rattle.sets_happens.specs.Adding.{Adding}
use Prim.Native.Nat.{◌-◌}
use lib.Dec.{ltb}
use Rattle.finite.specs.Logic.{◌and◌}
use Rattle.model.specs.Limits.{ROWS}
use Rattle.sets_of_rows.specs.First.{next}
use Rattle.sets_order.proofs.system.fill_system.Given as goal

abbrev pub invariant-loop-i : goal.invariant-loop-i
invariant-loop-i l = Adding SYSTEM l.fn.ends (λ i j. ltb j l.t.rows and reached_at (table_of l.t) 16 i j) l.initial.w l.i-iterator.left l.w × Within SYSTEM SYSTEM_END l.initial.w l.w
