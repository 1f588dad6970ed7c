use Rattle.finite.specs.Logic.{◌and◌, ◌or◌}
use Rattle.model.specs.RowFault.{atomic_fits}
use Rattle.door_admit.proofs.row_faults.atomic_fits.Goals as goal

pub returns : goal.returns
unfolding atomic_fits ◌and◌ ◌or◌
returns c = cc
