use Rattle.std.proofs.Common.{refl}
use Rattle.finite.specs.Logic.{◌or◌}
use Rattle.model.specs.Row.{acquires}
use Rattle.door_rows.proofs.kinds.acquires.Goals as goal

pub returns : goal.returns
unfolding acquires ◌or◌
returns c = refl
