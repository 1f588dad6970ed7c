use Rattle.sets_of_table.specs.Makes.{any_is}
use Rattle.sets_of_table.proofs.tests.any.Goals as goal

pub returns : goal.returns
returns c = any_is _ _ _ _ _ _ _ c.either.ensures c.get.ensures c.bitor.ensures
