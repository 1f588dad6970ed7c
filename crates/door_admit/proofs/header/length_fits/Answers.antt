use Rattle.finite.specs.Logic.{◌and◌}
use Rattle.model.specs.Header.{count_at}
use Rattle.model.specs.Refusal.{length_fits}
use Rattle.door_admit.proofs.header.length_fits.Goals as goal

pub returns : goal.returns
unfolding length_fits count_at ◌and◌
returns c = cc
