use Rattle.finite.specs.Logic.{◌and◌}
use Rattle.model.specs.Refusal.{limits_fit}
use Rattle.door_admit.proofs.header.limits_fit.Goals as goal

pub returns : goal.returns
unfolding limits_fit ◌and◌
returns c = cc
