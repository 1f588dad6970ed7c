use Rattle.finite.specs.Logic.{◌and◌}
use Rattle.model.specs.RowFault.{operation_fits}
use Rattle.door_admit.proofs.row_faults.operation_fits.Goals as goal

pub returns : goal.returns
unfolding operation_fits ◌and◌
returns c = cc
