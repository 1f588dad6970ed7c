use Rattle.sets_grids.specs.Given.{given_few}
use Rattle.sets_engine.specs.Engine.{ordered}
use Rattle.sets_engine.proofs.order.Goals as goal

pub returns : goal.returns
returns c =
    ordered (given_few c.requires.1) c.synchronize.ensures c.order.ensures
