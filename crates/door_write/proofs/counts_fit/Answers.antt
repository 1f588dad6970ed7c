use Rattle.finite.specs.Logic.{◌and◌}
use Rattle.door_write.specs.Answer.{counts_fit}
use mathlib.Core.Path.{refl}
use Rattle.door_write.proofs.counts_fit.Goals as goal

pub returns : goal.returns
unfolding counts_fit ◌and◌
returns c = refl
