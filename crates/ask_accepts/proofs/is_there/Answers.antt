use Rattle.model.specs.Moment.{moment}
use Rattle.model.specs.Table.{decode}
use Rattle.ask_accepts.proofs.is_there.Goals as goal

pub returns : goal.returns
unfolding moment decode
returns c = cc
