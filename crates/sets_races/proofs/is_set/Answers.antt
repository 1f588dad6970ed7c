use Rattle.bits.specs.Bit.{bit_of}
use Rattle.sets_races.proofs.is_set.Goals as goal

pub returns : goal.returns
unfolding bit_of
returns c = cc
