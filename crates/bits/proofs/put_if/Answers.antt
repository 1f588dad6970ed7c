-- `put_if` meets its contract: by the two branches. Assumes nothing.
use Rattle.bits.specs.Bit.{set_bit_if}
use mathlib.Core.Path.{refl}
use Rattle.bits.proofs.put_if.Goals as goal

pub returns-then-b : goal.returns-then-b
unfolding set_bit_if
returns-then-b c = simp c.if-b.true c.put.ensures

pub returns-else-b : goal.returns-else-b
unfolding set_bit_if
returns-else-b c = simp c.if-b.false refl
