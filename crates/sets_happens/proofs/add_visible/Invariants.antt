use Rattle.run.specs.Layout.{table_of}
use Rattle.bits.specs.Within.{Within}
use Rattle.sets_grids.specs.Regions.{HAPPENS_END, VISIBLE_VISIBLE}
use Rattle.sets_happens.specs.Adding.{Adding}
use Prim.Native.Nat.{◌-◌}
use lib.Dec.{ltb}
use Rattle.finite.specs.Logic.{◌and◌}
use Rattle.model.specs.Limits.{ROWS}
use Rattle.sets_of_rows.specs.First.{next}
use Rattle.sets_happens.specs.Behind.{visible_visible}
use Rattle.sets_happens.proofs.add_visible.Given as goal

abbrev pub invariant-loop-v : goal.invariant-loop-v
invariant-loop-v l = Adding VISIBLE_VISIBLE l.fn.k.visible (λ v j. ltb j l.t.rows and visible_visible (table_of l.t) l.c v j) l.initial.w l.v-iterator.left l.w × Within VISIBLE_VISIBLE HAPPENS_END l.initial.w l.w
