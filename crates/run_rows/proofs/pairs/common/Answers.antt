use Rattle.finite.specs.Logic.{◌and◌}
use Rattle.model.specs.Location.{common}
use Rattle.run_rows.proofs.pairs.common.Goals as goal

pub returns : goal.returns
unfolding common ◌and◌
returns c = cc
