use Rattle.work_area.specs.Mask.{mask_at}
use Rattle.work_area.proofs.pairs.mask.Goals as goal

pub returns : goal.returns
unfolding mask_at
returns c = cc
