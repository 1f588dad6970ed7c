-- A change within a part of a list of words: words before a and from b on are as they were. The frame of every function that
-- writes, said of words. Assumes nothing.
use Rattle.std.specs.Prelude.{◌≡◌, refl, Bool, true, false, List, ℕ, ◌+◌, ◌-◌, ◌*◌, ◌/◌, ◌≤◌, ◌<◌, length, get_or}
use Rattle.std.proofs.Common.{sym, ◌∙◌, arith, length-set, get_or-set_other, ext_get_or}
use Rattle.std.proofs.Math.Decide.{dec_lt}
use Rattle.bits.specs.Bit.{bit, bit_word, set_bit, set_bit_if, zeros, length_zeros, zeros_in, zeros_out, join_row, length_join_row, join_row_out}

-- ---- definitions

-- u is w but for words a..b
pub record Within (a b : ℕ) (w u : List ℕ) : Type 0 where
  pub len : length u ≡ length w
  pub out : (x : ℕ) → (a ≤ x → b ≤ x) → get_or u x 0 ≡ get_or w x 0

-- ---- laws

pub within_refl : (a b : ℕ) (w : List ℕ) → Within a b w w
within_refl a b w = record { len = refl; out = λ x h. refl }

pub within_trans : {a b : ℕ} {w u v : List ℕ} → Within a b w u → Within a b u v → Within a b w v
within_trans p q = record { len = q.len ∙ p.len; out = λ x h. q.out x h ∙ p.out x h }

pub within_widen : {a b : ℕ} (c d : ℕ) {w u : List ℕ} → c ≤ a → b ≤ d → Within a b w u → Within c d w u
within_widen c d l m p = record { len = p.len; out = λ x h. p.out x (λ i. let g : d ≤ x = h (omega arith) in omega arith) }

-- bits outside are as they were
pub within_bit : {a b : ℕ} {w u : List ℕ} → Within a b w u → (k : ℕ) → (64 * a ≤ k → 64 * b ≤ k) → bit u k ≡ bit w k
within_bit {a} {b} {w} {u} p k h = bit_word u w k (p.out (k / 64) (λ i. let g : 64 * b ≤ k = h (omega arith) in omega arith))

-- ---- laws: the frame of each change

pub within_set_bit : (a b : ℕ) (w : List ℕ) (k : ℕ) → 64 * a ≤ k → k < 64 * b → Within a b w (set_bit w k)
unfolding set_bit
within_set_bit a b w k l m =
    record { len = simp length-set; out = λ x h. get_or-set_other w (k / 64) x _ 0 (λ e. let g : b ≤ x = h (omega arith) in omega arith) }

pub within_set_bit_if : (a b : ℕ) (t : Bool) (w : List ℕ) (k : ℕ) → 64 * a ≤ k → k < 64 * b → Within a b w (set_bit_if t w k)
unfolding set_bit_if
within_set_bit_if a b true w k l m = within_set_bit a b w k l m
within_set_bit_if a b false w k l m = within_refl a b w

pub within_zeros : (w : List ℕ) (a n : ℕ) → Within a (a + n) w (zeros w a n)
within_zeros w a n = record { len = length_zeros w a n; out = λ x h. zeros_out w a n x h }

pub within_join_row : (w : List ℕ) (dst src n : ℕ) → Within dst (dst + n) w (join_row w dst src n)
within_join_row w dst src n = record { len = length_join_row w dst src n; out = λ x h. join_row_out w dst src n x h }

-- the same from what `put_if` and `clear` ensure
pub within_put : {w u : List ℕ} (c d k : ℕ) (b : Bool) → 64 * c ≤ k → k < 64 * d → u ≡ set_bit_if b w k → Within c d w u
within_put {w} c d k b l m e = rw e (within_set_bit_if c d b w k l m)

pub within_cleared : (a b : ℕ) {w v : List ℕ} → a ≤ b → v ≡ zeros w a (b - a) → Within a b w v
within_cleared a b {w} l e = rw e (within_widen a b (omega arith) (omega arith) (within_zeros w a (b - a)))

-- a change within a part, and the part cleared after it: as if it had been cleared at once
pub zeros_within : (a n : ℕ) (w u : List ℕ) → a + n ≤ length w → Within a (a + n) w u → zeros u a n ≡ zeros w a n
zeros_within a n w u room p =
    ext_get_or 0 (zeros u a n) (zeros w a n) (length_zeros u a n ∙ p.len ∙ sym (length_zeros w a n)) (λ x l. go x (dec_lt x a) (dec_lt x (a + n)))
  where
    outside : (x : ℕ) → (a ≤ x → a + n ≤ x) → get_or (zeros u a n) x 0 ≡ get_or (zeros w a n) x 0
    outside x h = zeros_out u a n x h ∙ p.out x h ∙ sym (zeros_out w a n x h)

    go : (x : ℕ) → Dec (x < a) → Dec (x < a + n) → get_or (zeros u a n) x 0 ≡ get_or (zeros w a n) x 0
    go x (yes l) m = outside x (λ h. absurd (omega arith))
    go x (no l) (yes m) = zeros_in u a n x (omega (arith, p.len)) (omega arith) m ∙ sym (zeros_in w a n x room (omega arith) m)
    go x (no l) (no m) = outside x (λ h. omega arith)
