use mathlib.Core.Path.{refl}
use Rattle.finite.specs.Logic.{◌and◌}
use Rattle.door_write.specs.Read.{lent_fit}
use Rattle.door_write.proofs.read.lent_fit.Goals as goal

pub returns : goal.returns
unfolding lent_fit ◌and◌
returns c = refl
