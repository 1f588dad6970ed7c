use Rattle.stramashly.specs.Packed.{read_number}
use Rattle.stramashly.proofs.packed.SizesPacked.pack.Goals as goal

pub returns : goal.returns
unfolding read_number
returns c = c.pack.ensures
