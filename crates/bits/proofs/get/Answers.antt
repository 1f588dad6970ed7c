-- `get` meets its contract: the code is what `bit` says. Assumes nothing.
use borrow.Author.Rules.{rules}
use Rattle.bits.specs.Bit.{bit, bit_of}
use Rattle.bits.proofs.get.Goals as goal

pub returns : goal.returns
unfolding bit bit_of
returns c = search rules
