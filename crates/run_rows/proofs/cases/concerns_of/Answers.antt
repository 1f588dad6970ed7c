use Rattle.model.specs.Happens.{concerns_of}
use Rattle.finite.specs.Logic.{◌or◌}
use Rattle.run_rows.specs.Cases.{touches}
use Rattle.run_rows.proofs.cases.concerns_of.Goals as goal

pub returns : goal.returns
unfolding concerns_of touches ◌or◌
returns c = cc
