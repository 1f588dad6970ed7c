use Rattle.stramashly.specs.Packed.{refusal_number}
use Rattle.stramashly.proofs.packed.RefusalPacked.pack.Goals as goal

pub returns : goal.returns
unfolding refusal_number
returns c = c.pack.ensures
