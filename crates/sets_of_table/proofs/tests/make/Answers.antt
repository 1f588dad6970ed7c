use Rattle.sets_of_table.specs.Tested.{tested_all}
use Rattle.sets_of_table.proofs.tests.make.Goals as goal

pub returns : goal.returns
returns c =
    tested_all c.make_accesses.ensures c.make_kinds.ensures c.make_orders.ensures c.make_marked.ensures
