use Rattle.finite.specs.Logic.{◌and◌}
use Rattle.model.specs.TableFault.{outside}
use Rattle.door_admit.proofs.table_faults.is_outside.Goals as goal

pub returns : goal.returns
unfolding outside ◌and◌
returns c = cc
