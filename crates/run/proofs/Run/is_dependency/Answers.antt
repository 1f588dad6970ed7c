use Rattle.finite.specs.Logic.{◌and◌}
use Rattle.model.specs.Table.{dependency}
use Rattle.run.proofs.Run.is_dependency.Goals as goal

pub returns : goal.returns
unfolding dependency ◌and◌
returns c = cc
