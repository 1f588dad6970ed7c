use Rattle.finite.specs.Logic.{◌and◌}
use Rattle.run_rows.specs.Cases.{touches}
use Rattle.run_rows.proofs.cases.touches_of.Goals as goal

pub returns : goal.returns
unfolding touches ◌and◌
returns c = cc
