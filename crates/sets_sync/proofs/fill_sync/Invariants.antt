use mathlib.Core.Path.{◌≡◌}
use Prim.Native.Nat.{◌-◌}
use lib.ListN.{length}
use lib.Dec.{ltb}
use Rattle.finite.specs.Logic.{◌and◌}
use Rattle.model.specs.Limits.{ROWS}
use Rattle.run.specs.Layout.{table_of}
use Rattle.sets_of_rows.specs.First.{next}
use Rattle.sets_of_rows.specs.Filling.{Filling}
use Rattle.model.specs.Synchronizes.{synchronizes}
use Rattle.work_area.specs.Regions.{SYNC}
use Rattle.sets_sync.proofs.fill_sync.Given as goal

abbrev pub invariant-loop-a : goal.invariant-loop-a
invariant-loop-a l = (length l.w ≡ length l.initial.w) × Filling SYNC l.initial.a-iterator.left (λ i j. ltb j l.t.rows and synchronizes (table_of l.t) i j) l.initial.w l.a-iterator.left l.w
