use Rattle.bits.specs.Matrix.{rel}
use Rattle.flags_order.proofs.steps.sync_bit.Goals as goal

pub returns : goal.returns
unfolding rel
returns c = c.get.ensures
