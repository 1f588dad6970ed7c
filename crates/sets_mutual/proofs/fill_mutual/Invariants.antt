use mathlib.Core.Path.{◌≡◌}
use Prim.Native.Nat.{◌-◌}
use lib.ListN.{length}
use lib.Dec.{ltb}
use Rattle.finite.specs.Logic.{◌and◌}
use Rattle.model.specs.Limits.{ROWS}
use Rattle.run.specs.Layout.{table_of}
use Rattle.sets_of_rows.specs.First.{next}
use Rattle.sets_of_rows.specs.Filling.{Filling}
use Rattle.model.specs.Scope.{mutually}
use Rattle.work_area.specs.Regions.{MUTUAL}
use Rattle.sets_mutual.proofs.fill_mutual.Given as goal

abbrev pub invariant-loop-i : goal.invariant-loop-i
invariant-loop-i l = (length l.w ≡ length l.initial.w) × Filling MUTUAL l.initial.i-iterator.left (λ i j. ltb j l.t.rows and mutually (table_of l.t) i j) l.initial.w l.i-iterator.left l.w
