use Rattle.run.specs.Layout.{table_of}
use Rattle.bits.specs.Within.{Within}
use Rattle.sets_grids.specs.Regions.{HAPPENS_END, VISIBLE_VISIBLE}
use Rattle.sets_happens.specs.Adding.{Adding}
use Prim.Native.Nat.{◌-◌}
use lib.Dec.{ltb}
use Rattle.finite.specs.Logic.{◌and◌}
use Rattle.model.specs.Limits.{ROWS}
use Rattle.sets_of_rows.specs.First.{next}
use Rattle.sets_happens.specs.Program.{visible_to}
use Rattle.sets_happens.proofs.put_visibles.Given as goal

abbrev pub invariant-loop-v : goal.invariant-loop-v
invariant-loop-v l = Adding VISIBLE_VISIBLE l.initial.v-iterator.left (λ v j. ltb j l.t.rows and visible_to (table_of l.t) v j) l.initial.w l.v-iterator.left l.w × Within VISIBLE_VISIBLE HAPPENS_END l.initial.w l.w
