use Rattle.finite.specs.Logic.{◌or◌}
use Rattle.model.specs.Table.{decode}
use Rattle.find_axioms.specs.Edges.{edge_is}
use Rattle.find_axioms.proofs.edges.edge_at.Goals as goal

pub returns : goal.returns
unfolding decode ◌or◌
returns c =
    edge_is _ _ _ _ _ _ _ _ c.before_some.ensures c.follows_at.ensures c.reads_from_at.ensures
    c.from_reads_at.ensures
