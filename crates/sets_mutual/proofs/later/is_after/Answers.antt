use Rattle.model.specs.Table.{decode}
use Rattle.sets_mutual.specs.Later.{later_rank}
use Rattle.sets_mutual.proofs.later.is_after.Goals as goal

pub returns : goal.returns
unfolding later_rank decode
returns c = cc
