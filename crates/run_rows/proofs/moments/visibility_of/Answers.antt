use Rattle.model.specs.Moment.{visibility_of}
use Rattle.finite.specs.Logic.{◌and◌}
use Rattle.run_rows.proofs.moments.visibility_of.Goals as goal

pub returns : goal.returns
unfolding visibility_of ◌and◌
returns c = cc
