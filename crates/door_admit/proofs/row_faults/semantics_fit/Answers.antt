use Rattle.finite.specs.Logic.{◌and◌, ◌or◌}
use Rattle.model.specs.RowFault.{semantics_fit}
use Rattle.door_admit.proofs.row_faults.semantics_fit.Goals as goal

pub returns : goal.returns
unfolding semantics_fit ◌and◌ ◌or◌
returns c = cc
