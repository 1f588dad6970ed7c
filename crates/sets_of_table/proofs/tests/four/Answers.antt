use Rattle.sets_of_table.specs.Makes.{four_is}
use Rattle.sets_of_table.proofs.tests.four.Goals as goal

pub returns : goal.returns
returns c = four_is _ _ _ _ _ _ _ _ c.either.ensures c.either-2.ensures c.bitor.ensures
