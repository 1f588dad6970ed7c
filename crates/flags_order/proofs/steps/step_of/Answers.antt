use Rattle.finite.specs.Logic.{◌or◌}
use Rattle.flags_order.specs.Cases.{step_apart, step_told}
use mathlib.Core.Path.{ap}
use mathlib.Core.Bool.{not}
use Rattle.flags_order.proofs.steps.step_of.Goals as goal

pub returns-then-not-synced-ordered : goal.returns-then-not-synced-ordered
unfolding ◌or◌
returns-then-not-synced-ordered c = step_apart _ _ _ _ _ _ _ _ c.ordered_at-ordered.ensures (ap not c.if-not-synced-ordered.true)

pub returns : goal.returns
returns c = step_told _ _ _ _ _ _ _ _ _ _ _ c.is_step.ensures c.row-r.ensures c.row-q.ensures
    c.ordered_at-ordered.ensures
