use Rattle.finite.specs.Logic.{◌and◌}
use Rattle.model.specs.Refusal.{names_missing}
use Rattle.door_admit.proofs.header.names_none.Goals as goal

pub returns : goal.returns
unfolding names_missing ◌and◌
returns c = cc
