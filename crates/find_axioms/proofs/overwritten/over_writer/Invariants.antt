use mathlib.Core.Path.{◌≡◌}
use Prim.Native.Nat.{◌≤◌}
use Rattle.finite.specs.Below.{least}
use Rattle.model.specs.Edge.{overwriting}
use Rattle.run.specs.Layout.{table_of}
use Rattle.find_axioms.specs.Sources.{source_in}
use Rattle.find_axioms.proofs.overwritten.over_writer.Given as goal

abbrev pub invariant-loop-z : goal.invariant-loop-z
invariant-loop-z l = (l.z ≤ l.t.rows) × (least l.z (overwriting (table_of l.t) (source_in l.src) l.y) ≡ l.z)
