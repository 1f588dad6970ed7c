use Rattle.finite.specs.Logic.{◌and◌}
use Rattle.flags_location.specs.Chains.{may_avail}
use Rattle.flags_location.proofs.chains.may_avail.Goals as goal

pub returns : goal.returns
unfolding may_avail ◌and◌
returns c = cc
