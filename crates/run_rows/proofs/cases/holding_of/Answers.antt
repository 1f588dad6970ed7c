use Rattle.model.specs.Happens.{holding_of}
use Rattle.finite.specs.Logic.{◌and◌}
use Rattle.run_rows.proofs.cases.holding_of.Goals as goal

pub returns : goal.returns
unfolding holding_of ◌and◌
returns c = cc
