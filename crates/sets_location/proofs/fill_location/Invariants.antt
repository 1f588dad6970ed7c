use mathlib.Core.Path.{◌≡◌}
use Prim.Native.Nat.{◌≤◌}
use lib.ListN.{length}
use Rattle.run.specs.Layout.{table_of}
use Rattle.sets_location.specs.Adds.{Carried}
use Rattle.sets_location.specs.Filled.{Filled}
use Rattle.sets_location.proofs.fill_location.Given as goal

abbrev pub invariant-loop-x : goal.invariant-loop-x
invariant-loop-x l = (l.x ≤ l.t.rows) × Filled (table_of l.t) l.t.rows l.x l.s l.initial.w l.w × (length l.made ≡ 512) × Carried (table_of l.t) l.t.rows l.x l.made

abbrev pub decreases-loop-x : goal.decreases-loop-x
decreases-loop-x l = l.x
