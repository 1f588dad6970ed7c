use mathlib.Core.Path.{◌≡◌}
use Prim.Native.Nat.{◌-◌}
use lib.ListN.{length}
use lib.Dec.{ltb}
use Rattle.finite.specs.Logic.{◌and◌}
use Rattle.model.specs.Limits.{ROWS}
use Rattle.run.specs.Layout.{table_of}
use Rattle.sets_of_rows.specs.First.{next}
use Rattle.sets_of_rows.specs.Filling.{Filling}
use Rattle.work_area.specs.Regions.{OVERLAP}
use Rattle.work_area.specs.State.{overlaps}
use Rattle.sets_overlap.specs.Overlap.{Near}
use Rattle.sets_overlap.proofs.fill_overlaps.Given as goal

abbrev pub invariant-loop-i : goal.invariant-loop-i
invariant-loop-i l = (length l.w ≡ length l.initial.w) × Filling OVERLAP l.initial.i-iterator.left (λ i j. ltb j l.t.rows and overlaps (table_of l.t) i j) l.initial.w l.i-iterator.left l.w × Near (table_of l.t) l.t.rows l.near
