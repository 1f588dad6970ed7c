use mathlib.Core.Path.{◌≡◌}
use mathlib.Core.Bool.{true}
use Prim.Native.Nat.{◌≤◌}
use Rattle.finite.specs.Below.{least}
use Rattle.model.specs.Edge.{overwrites_nth}
use Rattle.run.specs.Layout.{table_of}
use Rattle.work_area.specs.Regions.{PAIR}
use Rattle.find_axioms.specs.Sources.{source_in}
use Rattle.find_axioms.specs.Overwritten.{may_overwrite}
use Rattle.find_axioms.proofs.overwritten.over_nth.Given as goal

abbrev pub invariant-loop-k : goal.invariant-loop-k
invariant-loop-k l = (l.k ≤ PAIR) × (may_overwrite (table_of l.t) (source_in l.src) l.y l.z ≡ true) × (least l.k (overwrites_nth (table_of l.t) (source_in l.src) l.y l.z) ≡ l.k)
