use Rattle.finite.specs.Logic.{◌and◌}
use Rattle.model.specs.Scope.{mutual_rows}
use Rattle.door_admit.proofs.table_faults.is_mutual_in.Goals as goal

pub returns : goal.returns
unfolding mutual_rows ◌and◌
returns c = cc
