use Rattle.finite.specs.Logic.{◌and◌}
use Rattle.model.specs.Location.{pure_read}
use Rattle.run_rows.proofs.pairs.pure_read.Goals as goal

pub returns : goal.returns
unfolding pure_read ◌and◌
returns c = cc
