use Rattle.model.specs.Moment.{moment_of}
use Rattle.finite.specs.Logic.{◌or◌}
use Rattle.run_rows.proofs.moments.moment_of.Goals as goal

pub returns : goal.returns
unfolding moment_of ◌or◌
returns c = cc
