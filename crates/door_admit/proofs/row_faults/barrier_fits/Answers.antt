use Rattle.finite.specs.Logic.{◌and◌, ◌or◌}
use Rattle.model.specs.RowFault.{barrier_fits}
use Rattle.door_admit.proofs.row_faults.barrier_fits.Goals as goal

pub returns : goal.returns
unfolding barrier_fits ◌and◌ ◌or◌
returns c = cc
