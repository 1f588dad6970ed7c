use Rattle.stramashly.specs.Packed.{packed}
use Rattle.stramashly.proofs.packed.pack.Goals as goal

pub returns : goal.returns
unfolding packed
returns c = cc
