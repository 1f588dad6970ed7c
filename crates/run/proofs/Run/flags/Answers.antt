use Rattle.model.specs.Table.{row_of}
use Rattle.run.proofs.Run.flags.Goals as goal

pub returns : goal.returns
unfolding row_of
returns c = cc
