use Rattle.sets_of_table.specs.Makes.{accesses_made}
use Rattle.sets_of_table.proofs.tests.make_accesses.Goals as goal

pub returns : goal.returns
returns c =
    accesses_made _ _ _ c.any-reads.ensures c.any-writes.ensures c.bitor.ensures c.put.ensures c.put-2.ensures c.put-3.ensures
