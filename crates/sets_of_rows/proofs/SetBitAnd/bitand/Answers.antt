use Rattle.sets_of_rows.specs.Member.{and_is}
use Rattle.sets_of_rows.proofs.SetBitAnd.bitand.Goals as goal

pub returns : goal.returns
returns c = and_is _ _
