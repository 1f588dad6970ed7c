use mathlib.Core.Path.{◌≡◌}
use Prim.Native.Nat.{◌-◌}
use lib.ListN.{length}
use Rattle.model.specs.Limits.{ROWS}
use Rattle.run.specs.Layout.{table_of}
use Rattle.find_axioms.specs.Sources.{source_in}
use Rattle.sets_of_rows.specs.First.{next}
use Rattle.sets_edges.specs.Edges.{Edging}
use Rattle.sets_edges.proofs.fill_edges.Given as goal

abbrev pub invariant-loop-y : goal.invariant-loop-y
invariant-loop-y l = (length l.w ≡ length l.initial.w) × Edging (table_of l.t) (source_in l.src) l.t.rows l.initial.y-iterator.left l.y-iterator.left l.initial.w l.w
