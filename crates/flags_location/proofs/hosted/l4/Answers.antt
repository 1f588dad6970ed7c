use Rattle.finite.specs.Logic.{◌and◌}
use Rattle.flags_location.proofs.hosted.l4.Goals as goal

pub returns : goal.returns
unfolding ◌and◌
returns c = cc
