use Rattle.bits.specs.Bit.{one_shl}
use native.Mathlib.Nat.{one-le-pow}
use Prim.Native.Nat.{ℕ, ◌-◌, ◌^◌}
use mathlib.Core.Path.{◌≡◌, ap, sym}
use native.Mathlib.Omega.{arith}
use borrow.Author.Rules.{rules}
use Rattle.sets_of_rows.proofs.low.Goals as goal

pub overflow_sub-result : goal.overflow_sub-result
overflow_sub-result c = rw (one_shl c.args.n (search rules)) (one-le-pow c.args.n 2 (omega arith))

pub returns-then-n-lt-WORD : goal.returns-then-n-lt-WORD
returns-then-n-lt-WORD c = ap (λ (z : ℕ). z - 1) (one_shl c.args.n (search rules))

pub returns-else-n-lt-WORD : goal.returns-else-n-lt-WORD
returns-else-n-lt-WORD c =
    let e : c.args.n ≡ 64 = omega arith in
    sym (ap (λ (z : ℕ). 2 ^ z - 1) e)
