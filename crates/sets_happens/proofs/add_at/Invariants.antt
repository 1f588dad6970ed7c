use Rattle.run.specs.Layout.{table_of}
use Rattle.bits.specs.Within.{Within}
use Rattle.sets_grids.specs.Regions.{HAPPENS, AVAILABLE_AT}
use Rattle.sets_happens.specs.Adding.{Adding}
use Prim.Native.Nat.{◌-◌}
use lib.Dec.{ltb}
use Rattle.finite.specs.Logic.{◌and◌}
use Rattle.model.specs.Limits.{ROWS}
use Rattle.sets_of_rows.specs.First.{next}
use Rattle.model.specs.Moment.{itself}
use Rattle.model.specs.Happens.{inter_thread}
use Rattle.sets_happens.proofs.add_at.Given as goal

abbrev pub invariant-loop-i : goal.invariant-loop-i
invariant-loop-i l = Adding HAPPENS l.initial.i-iterator.left (λ i j. ltb j l.t.rows and inter_thread (table_of l.t) l.c (itself i) (itself j)) l.initial.w l.i-iterator.left l.w × Within HAPPENS AVAILABLE_AT l.initial.w l.w
