use Rattle.finite.specs.Logic.{◌or◌}
use Rattle.model.specs.RowFault.{bytes_fit}
use Rattle.door_admit.proofs.row_faults.bytes_fit.Goals as goal

pub returns : goal.returns
unfolding bytes_fit ◌or◌
returns c = cc
