use Rattle.finite.specs.Logic.{◌and◌}
use Rattle.model.specs.Header.{version_at, zero_at}
use Rattle.model.specs.Refusal.{version_fits}
use Rattle.door_admit.proofs.header.version_fits.Goals as goal

pub returns : goal.returns
unfolding version_fits version_at zero_at ◌and◌
returns c = cc
