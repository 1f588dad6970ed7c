use Rattle.sets_of_rows.specs.Member.{less_is}
use Rattle.sets_of_rows.proofs.SetSub.sub.Goals as goal

pub returns : goal.returns
returns c = less_is _ _
