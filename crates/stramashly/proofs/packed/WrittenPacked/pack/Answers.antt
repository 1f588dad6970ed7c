use Rattle.stramashly.specs.Packed.{write_number}
use Rattle.stramashly.proofs.packed.WrittenPacked.pack.Goals as goal

pub returns : goal.returns
unfolding write_number
returns c = c.pack.ensures
