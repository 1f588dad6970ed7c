use Rattle.finite.specs.Logic.{◌and◌, ◌or◌}
use Rattle.model.specs.RowFault.{plain_fits}
use Rattle.door_admit.proofs.row_faults.plain_fits.Goals as goal

pub returns : goal.returns
unfolding plain_fits ◌and◌ ◌or◌
returns c = cc
