use Rattle.finite.specs.Logic.{◌and◌}
use Rattle.flags_location.specs.Chains.{available_rows}
use Rattle.flags_location.proofs.chains.available_at.Goals as goal

pub returns : goal.returns
unfolding available_rows ◌and◌
returns c = cc
