use mathlib.Core.Path.{◌≡◌}
use Prim.Native.Nat.{◌-◌}
use lib.ListN.{length}
use lib.Dec.{ltb}
use Rattle.finite.specs.Logic.{◌and◌}
use Rattle.model.specs.Limits.{ROWS}
use Rattle.sets_of_rows.specs.First.{next}
use Rattle.run.specs.Layout.{table_of}
use Rattle.sets_of_rows.specs.Filling.{Filling}
use Rattle.sets_grids.specs.Regions.{HOSTED}
use Rattle.sets_grids.specs.Hosted.{hosted_by}
use Rattle.sets_hosts.proofs.fill_hosted.Given as goal

abbrev pub invariant-loop-x : goal.invariant-loop-x
invariant-loop-x l = (length l.w ≡ length l.initial.w) × Filling HOSTED l.initial.x-iterator.left (λ i j. ltb j l.t.rows and hosted_by (table_of l.t) i j) l.initial.w l.x-iterator.left l.w
