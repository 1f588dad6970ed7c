use Rattle.model.specs.Edge.{reads_from}
use Rattle.model.specs.Table.{decode}
use Rattle.finite.specs.Logic.{◌and◌}
use Rattle.find_axioms.proofs.edges.reads_from_at.Goals as goal

pub returns : goal.returns
unfolding reads_from decode ◌and◌
returns c = cc
