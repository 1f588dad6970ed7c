use Rattle.finite.specs.Logic.{◌and◌}
use Rattle.model.specs.Row.{same_instance}
use Rattle.door_rows.proofs.kinds.same_instance.Goals as goal

pub returns : goal.returns
unfolding same_instance ◌and◌
returns c = cc
