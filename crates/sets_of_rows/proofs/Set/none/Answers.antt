use Rattle.sets_of_rows.specs.Member.{none_is}
use Rattle.sets_of_rows.proofs.Set.none.Goals as goal

pub returns : goal.returns
returns c = none_is
