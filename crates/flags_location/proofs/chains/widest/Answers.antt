use Rattle.flags_location.specs.Chains.{widest}
use Rattle.flags_location.proofs.chains.widest.Goals as goal

pub returns : goal.returns
unfolding widest
returns c = cc
