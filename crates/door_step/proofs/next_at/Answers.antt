use mathlib.Core.Path.{sym}
use Rattle.door_step.specs.StepLaws.{next_stays, next_moves}
use Rattle.door_step.proofs.next_at.Goals as goal

pub returns-then-n-at : goal.returns-then-n-at
returns-then-n-at c = sym (next_stays _ _ _ c.rows_at-n.ensures c.if-n-at.true)

pub returns-else-n-at : goal.returns-else-n-at
returns-else-n-at c = sym (next_moves _ _ _ c.rows_at-n.ensures c.if-n-at.false)
