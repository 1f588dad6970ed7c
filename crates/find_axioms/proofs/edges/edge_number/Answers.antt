use Rattle.find_axioms.specs.Edges.{number_is}
use Rattle.find_axioms.proofs.edges.edge_number.Goals as goal

pub returns : goal.returns
returns c =
    number_is _ _ _ _ _ _ _ _ _ _ _ _ c.before_some-location.ensures
    c.follows_at-order.ensures c.reads_from_at-source.ensures
    c.from_reads_at-reader.ensures c.either-4.ensures c.either-3.ensures
    c.either-2.ensures c.either.ensures
