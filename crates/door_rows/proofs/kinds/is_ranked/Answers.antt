use Rattle.std.proofs.Common.{refl}
use Rattle.finite.specs.Logic.{◌or◌}
use Rattle.model.specs.Row.{ranked}
use Rattle.door_rows.proofs.kinds.is_ranked.Goals as goal

pub returns : goal.returns
unfolding ranked ◌or◌
returns c = refl
