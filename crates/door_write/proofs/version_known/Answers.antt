use Rattle.finite.specs.Logic.{◌and◌}
use Rattle.door_write.specs.Answer.{version_known}
use mathlib.Core.Path.{refl}
use Rattle.door_write.proofs.version_known.Goals as goal

pub returns : goal.returns
unfolding version_known ◌and◌
returns c = refl
