use Rattle.finite.specs.Logic.{◌and◌}
use Rattle.run_rows.specs.Forms.{lead_rows}
use Rattle.run_rows.proofs.carriers.is_leading.Goals as goal

pub returns : goal.returns
unfolding lead_rows ◌and◌
returns c = cc
