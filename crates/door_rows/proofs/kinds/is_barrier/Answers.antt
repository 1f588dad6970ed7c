use Rattle.std.proofs.Common.{refl}
use Rattle.finite.specs.Logic.{◌or◌}
use Rattle.model.specs.Row.{barrier}
use Rattle.door_rows.proofs.kinds.is_barrier.Goals as goal

pub returns : goal.returns
unfolding barrier ◌or◌
returns c = refl
