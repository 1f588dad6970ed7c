use Rattle.flags_order.specs.System.{step_made}
use Rattle.flags_order.proofs.steps.fill_step.Goals as goal

pub returns : goal.returns
returns c =
    step_made _ _ _ _ _ c.fill_cases.ensures c.add_dependencies.ensures
