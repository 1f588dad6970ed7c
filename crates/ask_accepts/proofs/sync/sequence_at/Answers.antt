use Rattle.finite.specs.Logic.{◌and◌, ◌or◌}
use Rattle.model.specs.Scope.{follows}
use Rattle.model.specs.Synchronizes.{sequence}
use Rattle.model.specs.Table.{decode}
use Rattle.ask_accepts.proofs.sync.sequence_at.Goals as goal

pub returns : goal.returns
unfolding sequence follows decode ◌and◌ ◌or◌
returns c = cc
