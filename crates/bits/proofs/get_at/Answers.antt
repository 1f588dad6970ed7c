-- `get_at` meets its contract: the code is what `bit_of` says of the word that the bit stands in. Assumes nothing.
use mathlib.Core.Path.{refl}
use Rattle.bits.specs.Bit.{bit_of, bit_from}
use Rattle.bits.proofs.get_at.Goals as goal

pub returns : goal.returns
unfolding bit_of
returns c = rw bit_from refl
