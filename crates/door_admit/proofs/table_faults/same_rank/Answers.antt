use Rattle.finite.specs.Logic.{◌and◌}
use Rattle.model.specs.TableFault.{same_rank}
use Rattle.door_admit.proofs.table_faults.same_rank.Goals as goal

pub returns : goal.returns
unfolding same_rank ◌and◌
returns c = cc
