use Rattle.model.specs.Scope.{follows, mutually}
use Rattle.model.specs.Table.{decode}
use Rattle.finite.specs.Logic.{◌and◌}
use Rattle.find_axioms.proofs.edges.follows_source.Goals as goal

pub returns : goal.returns
unfolding follows mutually decode ◌and◌
returns c = cc
