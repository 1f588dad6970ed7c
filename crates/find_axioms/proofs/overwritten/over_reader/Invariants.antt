use Rattle.run.specs.Layout.{table_of}
use Rattle.find_axioms.specs.Sources.{source_in}
use Rattle.model.specs.Edge.{is_overwritten}
use Rattle.finite.specs.Below.{least}
use Prim.Native.Nat.{◌≤◌}
use mathlib.Core.Path.{◌≡◌}
use Rattle.find_axioms.proofs.overwritten.over_reader.Given as goal

abbrev pub invariant-loop-y : goal.invariant-loop-y
invariant-loop-y l = (l.y ≤ l.t.rows) × (least l.y (is_overwritten (table_of l.t) (source_in l.src)) ≡ l.y)
