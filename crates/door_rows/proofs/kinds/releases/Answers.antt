use Rattle.std.proofs.Common.{refl}
use Rattle.finite.specs.Logic.{◌or◌}
use Rattle.model.specs.Row.{releases}
use Rattle.door_rows.proofs.kinds.releases.Goals as goal

pub returns : goal.returns
unfolding releases ◌or◌
returns c = refl
