use Rattle.model.specs.Moment.{moment_in}
use Rattle.finite.specs.Logic.{◌and◌}
use Rattle.run_rows.proofs.moments.moment_in.Goals as goal

pub returns : goal.returns
unfolding moment_in ◌and◌
returns c = cc
