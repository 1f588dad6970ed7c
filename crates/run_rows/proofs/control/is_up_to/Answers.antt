use Rattle.finite.specs.Logic.{◌and◌}
use Rattle.model.specs.Table.{decode}
use Rattle.model.specs.Moment.{same_agent}
use Rattle.model.specs.Synchronizes.{up_to}
use Rattle.run_rows.proofs.control.is_up_to.Goals as goal

pub returns : goal.returns
unfolding up_to same_agent decode ◌and◌
returns c = cc
