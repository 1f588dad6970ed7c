use Rattle.sets_of_table.specs.Makes.{either_is}
use Rattle.sets_of_table.proofs.tests.either.Goals as goal

pub returns : goal.returns
returns c = either_is _ _ _ _ _ _ c.get.ensures c.get-2.ensures c.bitor.ensures
