use Rattle.run.specs.Layout.{table_of}
use Rattle.bits.specs.Within.{Within}
use Rattle.sets_grids.specs.Regions.{AVAILABLE_AT, AVAILABLE_VISIBLE, AVAILABLE_AVAILABLE, VISIBLE_VISIBLE}
use Rattle.sets_happens.specs.Adding.{Adding}
use Prim.Native.Nat.{◌-◌}
use lib.Dec.{ltb}
use Rattle.finite.specs.Logic.{◌and◌}
use Rattle.model.specs.Limits.{ROWS}
use Rattle.sets_of_rows.specs.First.{next}
use Rattle.sets_happens.specs.Program.{behind, to_visible, to_available}
use Rattle.sets_happens.proofs.put_availables.Given as goal

abbrev pub invariant-loop-a : goal.invariant-loop-a
invariant-loop-a l = Adding AVAILABLE_AT l.initial.a-iterator.left (λ a j. ltb j l.t.rows and behind (table_of l.t) a j) l.initial.w l.a-iterator.left l.w × Adding AVAILABLE_VISIBLE l.initial.a-iterator.left (λ a j. ltb j l.t.rows and to_visible (table_of l.t) a j) l.initial.w l.a-iterator.left l.w × Adding AVAILABLE_AVAILABLE l.initial.a-iterator.left (λ a j. ltb j l.t.rows and to_available (table_of l.t) a j) l.initial.w l.a-iterator.left l.w × Within AVAILABLE_AT VISIBLE_VISIBLE l.initial.w l.w
