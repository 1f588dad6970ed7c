use Rattle.model.specs.Moment.{program_ordered}
use Rattle.finite.specs.Logic.{◌and◌}
use Rattle.run_rows.proofs.moments.is_ordered.Goals as goal

pub returns : goal.returns
unfolding program_ordered ◌and◌
returns c = cc
