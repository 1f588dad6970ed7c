use Rattle.finite.specs.Logic.{◌and◌}
use Rattle.model.specs.Scope.{together}
use Rattle.run.proofs.Run.together.Goals as goal

pub returns : goal.returns
unfolding together ◌and◌
returns c = cc
