use Rattle.std.proofs.Common.{refl}
use Rattle.finite.specs.Logic.{◌and◌}
use Rattle.model.specs.Row.{touches, inside}
use Rattle.door_rows.proofs.kinds.touches.Goals as goal

pub returns : goal.returns
unfolding touches inside ◌and◌
returns c = refl
