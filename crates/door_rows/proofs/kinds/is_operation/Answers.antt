use Rattle.std.proofs.Common.{refl}
use Rattle.finite.specs.Logic.{◌and◌}
use Rattle.model.specs.Row.{operation}
use Rattle.door_rows.proofs.kinds.is_operation.Goals as goal

pub returns : goal.returns
unfolding operation ◌and◌
returns c = refl
