use Rattle.sets_of_table.specs.Makes.{kinds_made}
use Rattle.sets_of_table.proofs.tests.make_kinds.Goals as goal

pub returns : goal.returns
returns c =
    kinds_made _ _ _ c.any-atomic.ensures c.either-ranked.ensures c.either-barrier.ensures c.put.ensures c.put-2.ensures c.put-3.ensures
