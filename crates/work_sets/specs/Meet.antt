-- What two runs of words share is joined to a third; the lowest bit that two runs share. Assumes nothing.
use Rattle.std.specs.Prelude.{◌≡◌, Bool, true, false, List, ℕ, ◌+◌, ◌*◌, ◌/◌, ◌%◌, ◌≤◌, ◌<◌, get_or}
use Rattle.std.proofs.Common.{sym, ap, ◌∙◌, arith}
use Rattle.std.proofs.Math.Decide.{dec_lt}
use Rattle.std.specs.Int.Bits.{bit_and}
use Rattle.finite.specs.Logic.{◌and◌, not_both, and_true, not_so}
use Rattle.finite.specs.Below.{Least}
use Rattle.bits.specs.Bit.{bit_of, bit, bit_of_zero}
use Rattle.work_sets.specs.Lowest.{Lowest, bit_of_and}

-- ---- definitions

-- bit j of both runs
unfoldable pub both : List ℕ → ℕ → ℕ → ℕ → Bool
both w a b j = bit w (a * 64 + j) and bit w (b * 64 + j)

-- ---- laws: the lowest

-- words below m share nothing
pub record Apart (w : List ℕ) (a b m : ℕ) : Type 0 where
  pub miss : (j : ℕ) → j < 64 * m → both w a b j ≡ false

pub apart_none : (w : List ℕ) (a b : ℕ) → Apart w a b 0
apart_none w a b = record { miss = λ j l. absurd (omega arith) }

both_word : (w : List ℕ) (a b m j : ℕ) → j / 64 ≡ m → both w a b j ≡ bit_of (bit_and (get_or w (a + m) 0) (get_or w (b + m) 0)) (j % 64)
unfolding both bit
both_word w a b m j e =
    let q : (d : ℕ) → (d * 64 + j) / 64 ≡ d + m = λ d. omega arith in
    let r : (d : ℕ) → (d * 64 + j) % 64 ≡ j % 64 = λ d. omega arith in
    simp (q, r) (sym (bit_of_and (get_or w (a + m) 0) (get_or w (b + m) 0) (j % 64)))

pub apart_more : (w : List ℕ) (a b m : ℕ) → Apart w a b m → bit_and (get_or w (a + m) 0) (get_or w (b + m) 0) ≡ 0 → Apart w a b (m + 1)
apart_more w a b m h e = record { miss = λ j l. go j l (dec_lt j (64 * m)) }
  where
    go : (j : ℕ) → j < 64 * (m + 1) → Dec (j < 64 * m) → both w a b j ≡ false
    go j l (yes o) = h.miss j o
    go j l (no o) = both_word w a b m j (omega arith) ∙ ap (λ (x : ℕ). bit_of x (j % 64)) e ∙ bit_of_zero (j % 64)

pub least_none : (w : List ℕ) (a b n : ℕ) → Apart w a b n → Least (64 * n) (both w a b) (64 * n)
least_none w a b n h = record { bound = omega arith; hit = λ l. absurd (omega arith); miss = λ k l. h.miss k l }

pub least_here : (w : List ℕ) (a b n m k : ℕ) → m < n → Apart w a b m → k < 64 → Lowest (bit_and (get_or w (a + m) 0) (get_or w (b + m) 0)) k
    → Least (64 * n) (both w a b) (m * 64 + k)
least_here w a b n m k l h o low =
    record { bound = omega arith; hit = λ _. hit; miss = λ j u. go j u (dec_lt j (64 * m)) }
  where
    hit : both w a b (m * 64 + k) ≡ true
    hit =
        let e : (m * 64 + k) % 64 ≡ k = omega arith in
        both_word w a b m (m * 64 + k) (omega arith) ∙ ap (λ (z : ℕ). bit_of (bit_and (get_or w (a + m) 0) (get_or w (b + m) 0)) z) e ∙ low.hit

    go : (j : ℕ) → j < m * 64 + k → Dec (j < 64 * m) → both w a b j ≡ false
    go j u (yes v) = h.miss j v
    go j u (no v) = both_word w a b m j (omega arith) ∙ low.miss (j % 64) (omega arith)

-- a run that shares nothing with itself is empty
pub least_empty : (w : List ℕ) (a n k : ℕ) → Least (64 * n) (both w a a) k → 64 * n ≤ k → (j : ℕ) → j < 64 * n → bit w (a * 64 + j) ≡ false
unfolding both
least_empty w a n k least far j l = not_so _ (λ h. not_both (and_true h h) (least.miss j (omega arith)))
