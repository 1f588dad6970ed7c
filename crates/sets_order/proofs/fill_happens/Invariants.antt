use Prim.Native.Nat.{◌≤◌, ◌<◌}
use Rattle.run.specs.Layout.{table_of}
use Rattle.bits.specs.Within.{Within}
use Rattle.sets_grids.specs.Regions.{HAPPENS, DEPENDS, REACH_END}
use Rattle.sets_grids.specs.Grid.{Grid}
use Rattle.sets_grids.specs.Happens.{HappensBy}
use Rattle.sets_order.specs.Inter.{wide_to}
use Rattle.sets_order.proofs.fill_happens.Given as goal

abbrev pub invariant-loop-c : goal.invariant-loop-c
invariant-loop-c l = (0 < l.c) × (l.c ≤ 16) × HappensBy (table_of l.t) (wide_to (table_of l.t) l.c) l.t.rows l.w × Grid DEPENDS l.t.rows (table_of l.t).depends l.w × Within HAPPENS REACH_END l.initial.w l.w
