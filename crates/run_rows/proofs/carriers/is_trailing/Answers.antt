use Rattle.finite.specs.Logic.{◌and◌}
use Rattle.run_rows.specs.Forms.{trail_rows}
use Rattle.run_rows.proofs.carriers.is_trailing.Goals as goal

pub returns : goal.returns
unfolding trail_rows ◌and◌
returns c = cc
