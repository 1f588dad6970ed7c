use Rattle.finite.specs.Logic.{◌and◌}
use Rattle.model.specs.Availability.{public_write}
use Rattle.run_rows.proofs.pairs.public_write.Goals as goal

pub returns : goal.returns
unfolding public_write ◌and◌
returns c = cc
