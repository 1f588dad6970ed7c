use Rattle.model.specs.Scope.{follows}
use Rattle.model.specs.Table.{decode}
use Rattle.finite.specs.Logic.{◌and◌}
use Rattle.find_axioms.proofs.edges.follows_at.Goals as goal

pub returns : goal.returns
unfolding follows decode ◌and◌
returns c = cc
