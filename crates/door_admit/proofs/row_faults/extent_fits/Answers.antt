use Rattle.finite.specs.Logic.{◌and◌, ◌or◌}
use Rattle.model.specs.RowFault.{extent_fits}
use Rattle.door_admit.proofs.row_faults.extent_fits.Goals as goal

pub returns : goal.returns
unfolding extent_fits ◌and◌ ◌or◌
returns c = cc
