use mathlib.Core.Path.{◌≡◌}
use Prim.Native.Nat.{◌-◌}
use Rattle.finite.specs.Below.{least}
use Rattle.model.specs.Limits.{ROWS}
use Rattle.run.specs.Layout.{table_of}
use Rattle.sets_of_rows.specs.First.{next}
use Rattle.sets_of_rows.specs.Walk.{Walk}
use Rattle.sets_choice.specs.Choosing.{candidate_in}
use Rattle.sets_choice.proofs.first_candidate.Given as goal

abbrev pub invariant-loop-source : goal.invariant-loop-source
invariant-loop-source l = Walk l.blank.writers l.source-iterator.left × (least (next l.source-iterator.left) (candidate_in (table_of l.t) l.t.rows l.blank.y) ≡ next l.source-iterator.left)
