use Rattle.bits.specs.Matrix.{rel}
use Rattle.flags_location.proofs.domains.grid_bit.Goals as goal

pub returns : goal.returns
unfolding rel
returns c = c.get.ensures
