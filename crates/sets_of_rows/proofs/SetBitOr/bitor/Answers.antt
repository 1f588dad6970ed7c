use Rattle.sets_of_rows.specs.Member.{or_is}
use Rattle.sets_of_rows.proofs.SetBitOr.bitor.Goals as goal

pub returns : goal.returns
returns c = or_is _ _
