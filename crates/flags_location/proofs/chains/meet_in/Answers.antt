use Rattle.finite.specs.Logic.{◌and◌}
use Rattle.flags_location.specs.Chains.{meet_in}
use Rattle.flags_location.proofs.chains.meet_in.Goals as goal

pub returns : goal.returns
unfolding meet_in ◌and◌
returns c = cc
