use Rattle.sets_of_table.specs.Number.{step_is}
use Rattle.sets_of_table.proofs.number.number_row.Goals as goal

pub returns : goal.returns
returns c = step_is _ _ _ _ _ _ _ c.find-f.ensures.0 c.grow.ensures.0
