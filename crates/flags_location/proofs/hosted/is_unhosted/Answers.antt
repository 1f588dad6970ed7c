use Rattle.flags_location.specs.Domains.{unhosted}
use Rattle.finite.specs.Logic.{◌and◌}
use Rattle.flags_location.proofs.hosted.is_unhosted.Goals as goal

pub returns : goal.returns
unfolding unhosted ◌and◌
returns c = cc
