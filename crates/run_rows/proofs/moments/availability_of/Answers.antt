use Rattle.model.specs.Moment.{availability_of}
use Rattle.finite.specs.Logic.{◌and◌}
use Rattle.run_rows.proofs.moments.availability_of.Goals as goal

pub returns : goal.returns
unfolding availability_of ◌and◌
returns c = cc
