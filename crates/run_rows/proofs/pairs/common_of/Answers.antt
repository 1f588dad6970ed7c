use Rattle.finite.specs.Logic.{◌and◌}
use Rattle.run_rows.proofs.pairs.common_of.Goals as goal

pub returns : goal.returns
unfolding ◌and◌
returns c = cc
