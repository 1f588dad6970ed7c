use Rattle.finite.specs.Logic.{◌and◌}
use Rattle.model.specs.TableFault.{rival}
use Rattle.door_admit.proofs.table_faults.is_rival.Goals as goal

pub returns : goal.returns
unfolding rival ◌and◌
returns c = cc
