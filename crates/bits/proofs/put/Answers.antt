-- `put` meets its contract: the one that it shifts is the power of 2 that `set_bit` joins. Assumes nothing.
use Rattle.bits.specs.Bit.{set_bit, one_shl}
use mathlib.Core.Path.{ap}
use Prim.Native.Nat.{ℕ, ◌/◌, ◌%◌}
use lib.ListN.{get_or, set}
use lib.Bits.{bit_or}
use native.Mathlib.Omega.{arith}
use Rattle.bits.proofs.put.Goals as goal

pub returns : goal.returns
unfolding set_bit
returns c =
    let w = c.args.w.now in
    let k = c.args.k in
    ap (λ (x : ℕ). set w (k / 64) (bit_or (get_or w (k / 64) 0) x)) (one_shl (k % 64) (omega arith))
