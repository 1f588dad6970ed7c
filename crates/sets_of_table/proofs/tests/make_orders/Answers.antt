use Rattle.sets_of_table.specs.Makes.{orders_made}
use Rattle.sets_of_table.proofs.tests.make_orders.Goals as goal

pub returns : goal.returns
returns c =
    orders_made _ _ c.either-acquires.ensures c.either-releases.ensures c.put.ensures c.put-2.ensures
