use Rattle.finite.specs.Logic.{◌and◌, ◌or◌}
use Rattle.model.specs.RowFault.{codes_fit}
use Rattle.door_admit.proofs.row_faults.codes_fit.Goals as goal

pub returns : goal.returns
unfolding codes_fit ◌and◌ ◌or◌
returns c = cc
