use Rattle.sets_closure.specs.Classes.{none_rows}
use Rattle.sets_closure.proofs.of_none.Goals as goal

pub returns : goal.returns
returns c = none_rows c.requires.1 _ _ c.requires.0 c.none-none.ensures
