use Rattle.finite.specs.Logic.{◌and◌}
use Rattle.flags_location.specs.Chains.{visible_rows}
use Rattle.flags_location.proofs.chains.visible_at.Goals as goal

pub returns : goal.returns
unfolding visible_rows ◌and◌
returns c = cc
