use mathlib.Core.Path.{◌≡◌}
use Prim.Native.Nat.{◌-◌}
use Rattle.finite.specs.Below.{least}
use Rattle.model.specs.Limits.{ROWS}
use Rattle.run.specs.Layout.{table_of}
use Rattle.find_axioms.specs.Sources.{source_in}
use Rattle.sets_of_rows.specs.First.{next}
use Rattle.sets_of_rows.specs.Walk.{Walk}
use Rattle.sets_overwritten.specs.Over.{reader_in}
use Rattle.sets_overwritten.proofs.first_overwrite.Given as goal

abbrev pub invariant-loop-y : goal.invariant-loop-y
invariant-loop-y l = Walk l.initial.y-iterator.left l.y-iterator.left × (least (next l.y-iterator.left) (reader_in (table_of l.t) l.t.rows (source_in l.src)) ≡ next l.y-iterator.left)
