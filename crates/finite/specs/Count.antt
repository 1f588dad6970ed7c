-- How many numbers, and how many pairs of numbers, below a bound pass a test; and what each count says.
-- Each recurses on the bound, so that a loop that counts up goes one `suc` at a time. Assumes nothing.
use Rattle.std.specs.Prelude.{◌≡◌, Bool, true, false}
use Rattle.std.proofs.Math.Path.{refl}
use Rattle.std.proofs.Math.Logic.{⊎_elim}
use Prim.Native.Nat.{ℕ, zero, suc, ◌+◌, ◌*◌, ◌≤◌, ◌<◌}
use Rattle.std.proofs.Common.{not-suc-le-zero}
use Rattle.std.proofs.Math.Nat.{suc-mul}
use native.Mathlib.Omega.{arith}
use Rattle.finite.specs.Below.{below_cases}

-- ---- definitions

-- 1 where a test passes, else 0
unfoldable pub one : Bool → ℕ
one true = 1
one false = 0

-- how many numbers below n pass
unfoldable pub count_below : ℕ → (ℕ → Bool) → ℕ
count_below zero p = 0
count_below (suc n) p = count_below n p + one (p n)

-- x goes with y, the pair's other number
unfoldable pub under : (ℕ → ℕ → Bool) → ℕ → ℕ → Bool
under p y x = p x y

-- how many pairs x < y below n pass: for each y, how many numbers below it go with it
unfoldable pub count_pairs : ℕ → (ℕ → ℕ → Bool) → ℕ
count_pairs zero p = 0
count_pairs (suc n) p = count_pairs n p + count_below n (under p n)

-- ---- laws: one test

pub one_bound : (b : Bool) → one b ≤ 1
unfolding one
one_bound true = omega arith
one_bound false = omega arith

pub one_none : (b : Bool) → one b ≡ 0 → b ≡ false
unfolding one
one_none true e = absurd (omega arith)
one_none false e = refl

pub one_off : {b : Bool} → b ≡ false → one b ≡ 0
unfolding one
one_off e = rw e refl

-- ---- laws: numbers

module _ (p : ℕ → Bool) where
  pub count_bound : (n : ℕ) → count_below n p ≤ n
  unfolding count_below
  count_bound zero = omega arith
  count_bound (suc n) = omega (arith, count_bound n, one_bound (p n))

  -- 0 exactly where none passes
  pub count_zero : (n : ℕ) → count_below n p ≡ 0 → (k : ℕ) → k < n → p k ≡ false
  unfolding count_below
  count_zero zero e k h = absurd (not-suc-le-zero h)
  count_zero (suc n) e k h =
      let a : count_below n p ≡ 0 = omega arith in
      let b : one (p n) ≡ 0 = omega arith in
      ⊎_elim (λ q. rw q (one_none (p n) b)) (λ l. count_zero n a k l) (below_cases h)

  pub count_off : (n : ℕ) → ((k : ℕ) → k < n → p k ≡ false) → count_below n p ≡ 0
  unfolding count_below
  count_off zero f = refl
  count_off (suc n) f = rw (count_off n (λ k h. f k (omega arith)), one_off (f n (omega arith))) refl

-- tests that agree below the bound
pub count_cong : (p q : ℕ → Bool) (n : ℕ) → ((k : ℕ) → k < n → p k ≡ q k) → count_below n p ≡ count_below n q
unfolding count_below
count_cong p q zero h = refl
count_cong p q (suc n) h = rw (count_cong p q n (λ k l. h k (omega arith)), h n (omega arith)) refl

-- where exactly one of three tests holds if a fourth does, and none else, the three counts add up to the fourth
pub count_split : (a b c d : ℕ → Bool) (n : ℕ) → ((k : ℕ) → k < n → one (a k) + one (b k) + one (c k) ≡ one (d k))
    → count_below n a + count_below n b + count_below n c ≡ count_below n d
unfolding count_below
count_split a b c d zero h = refl
count_split a b c d (suc n) h =
    let f = count_split a b c d n (λ k l. h k (omega arith)) in
    let g = h n (omega arith) in
    omega arith

-- ---- laws: pairs

module _ (p : ℕ → ℕ → Bool) where
  pub pairs_bound : (n m : ℕ) → n ≤ m → count_pairs n p ≤ n * m
  unfolding count_pairs
  pairs_bound zero m l = omega arith
  pairs_bound (suc n) m l = rw suc-mul (omega (arith, pairs_bound n m (omega arith), count_bound (under p n) n))

  -- 0 exactly where no pair passes
  pub pairs_zero : (n : ℕ) → count_pairs n p ≡ 0 → (x y : ℕ) → x < y → y < n → p x y ≡ false
  unfolding count_pairs under
  pairs_zero zero e x y l h = absurd (not-suc-le-zero h)
  pairs_zero (suc n) e x y l h =
      let a : count_pairs n p ≡ 0 = omega arith in
      let b : count_below n (under p n) ≡ 0 = omega arith in
      ⊎_elim (λ q. rw q (count_zero (λ k. p k n) n b x (omega arith))) (λ m. pairs_zero n a x y l m) (below_cases h)

  pub pairs_off : (n : ℕ) → ((x y : ℕ) → x < y → y < n → p x y ≡ false) → count_pairs n p ≡ 0
  unfolding count_pairs under
  pairs_off zero f = refl
  pairs_off (suc n) f = rw (pairs_off n (λ x y l h. f x y l (omega arith)), count_off (λ x. p x n) n (λ x l. f x n l (omega arith))) refl

-- tests that agree below the bound
pub pairs_cong : (p q : ℕ → ℕ → Bool) (n : ℕ) → ((x y : ℕ) → x < y → y < n → p x y ≡ q x y) → count_pairs n p ≡ count_pairs n q
unfolding count_pairs under
pairs_cong p q zero h = refl
pairs_cong p q (suc n) h = rw (pairs_cong p q n (λ x y l m. h x y l (omega arith)), count_cong (λ x. p x n) (λ x. q x n) n (λ x l. h x n l (omega arith))) refl

-- where for each pair exactly one of three tests holds if a fourth does, and none else, the three counts add up to the fourth
pub pairs_split : (a b c d : ℕ → ℕ → Bool) (n : ℕ) → ((x y : ℕ) → x < y → y < n → one (a x y) + one (b x y) + one (c x y) ≡ one (d x y))
    → count_pairs n a + count_pairs n b + count_pairs n c ≡ count_pairs n d
unfolding count_pairs under
pairs_split a b c d zero h = refl
pairs_split a b c d (suc n) h =
    let f = pairs_split a b c d n (λ x y l m. h x y l (omega arith)) in
    let g = count_split (λ x. a x n) (λ x. b x n) (λ x. c x n) (λ x. d x n) n (λ x l. h x n l (omega arith)) in
    omega arith
