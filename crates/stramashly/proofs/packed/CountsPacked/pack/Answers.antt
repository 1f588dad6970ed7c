use Rattle.stramashly.specs.Packed.{open_number}
use Rattle.stramashly.proofs.packed.CountsPacked.pack.Goals as goal

pub returns : goal.returns
unfolding open_number
returns c = c.pack.ensures
