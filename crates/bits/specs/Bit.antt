-- Bits of a list of words, 64 to a word: set one, clear words, join one run of words to another; and what each leaves.
-- Assumes nothing: past the end a bit is off and a store does nothing.
use Rattle.std.specs.Prelude.{◌≡◌, refl, ◌≢◌, Bool, true, false, List, ℕ, zero, suc, ◌+◌, ◌-◌, ◌*◌, ◌/◌, ◌%◌, ◌^◌, ◌≤◌, ◌<◌, eqb, length, get_or, set}
use Rattle.std.proofs.Common.{sym, ap, ◌∙◌, arith, one-mul, pow-suc, add-one, length-set, get_or-set_same, get_or-set_other, pow-add, shl_exact}
use Rattle.std.proofs.Math.Nat.{div-eq_of_lt, mul-mod_left, one-le-pow}
use Rattle.std.proofs.Math.Decide.{dec_lt, ℕ_discrete}
use Rattle.std.specs.Int.Bits.{bit_or}
use Rattle.std.proofs.lemmas.Nat.{or_shr, or_mod, shl-shr}
use Rattle.std.proofs.Math.Seq.{set_out}
use Rattle.std.proofs.Math.Pow.{pow-lt}
use Rattle.std.proofs.lemmas.List.{ext_get_or, places}
use borrow.Rule.Slice.PartMut.{put_mid}
use lib.ListN.{replicate}
use Rattle.finite.specs.Logic.{◌or◌, or_right, or_off}

-- ---- definitions

-- bit j of a number
unfoldable pub bit_of : ℕ → ℕ → Bool
bit_of x j = eqb (x / 2 ^ j % 2) 1

-- bit k of the words: bit k % 64 of word k / 64
unfoldable pub bit : List ℕ → ℕ → Bool
bit w k = bit_of (get_or w (k / 64) 0) (k % 64)

-- bit k set
unfoldable pub set_bit : List ℕ → ℕ → List ℕ
set_bit w k = set w (k / 64) (bit_or (get_or w (k / 64) 0) (2 ^ (k % 64)))

-- bit k set where b
unfoldable pub set_bit_if : Bool → List ℕ → ℕ → List ℕ
set_bit_if true w k = set_bit w k
set_bit_if false w k = w

-- words from..from+n are 0
unfoldable pub zeros : List ℕ → ℕ → ℕ → List ℕ
zeros w from zero = w
zeros w from (suc n) = set (zeros w from n) (from + n) 0

-- word dst + m becomes its or with word src + m, for each m < n
unfoldable pub join_row : List ℕ → ℕ → ℕ → ℕ → List ℕ
join_row w dst src zero = w
join_row w dst src (suc n) = set (join_row w dst src n) (dst + n) (bit_or (get_or w (dst + n) 0) (get_or w (src + n) 0))

-- ---- laws: bits of a number

-- on single digits
or_digit : (x y : ℕ) → x < 2 → y < 2 → eqb (bit_or x y) 1 ≡ (eqb x 1 or eqb y 1)
unfolding ◌or◌
or_digit zero zero p q = refl
or_digit zero (suc zero) p q = refl
or_digit zero (suc (suc y)) p q = absurd (omega arith)
or_digit (suc zero) zero p q = refl
or_digit (suc zero) (suc zero) p q = refl
or_digit (suc zero) (suc (suc y)) p q = absurd (omega arith)
or_digit (suc (suc x)) y p q = absurd (omega arith)

pub bit_of_or : (a b j : ℕ) → bit_of (bit_or a b) j ≡ (bit_of a j or bit_of b j)
unfolding bit_of
bit_of_or a b j =
    ap (λ (x : ℕ). eqb (x % 2) 1) (or_shr a b j) ∙ ap (λ (x : ℕ). eqb x 1) (or_mod (a / 2 ^ j) (b / 2 ^ j) 1)
    ∙ or_digit (a / 2 ^ j % 2) (b / 2 ^ j % 2) (omega arith) (omega arith)

pub bit_of_zero : (j : ℕ) → bit_of 0 j ≡ false
unfolding bit_of
bit_of_zero j = ap (λ (x : ℕ). eqb (x % 2) 1) (div-eq_of_lt (one-le-pow j 2 (omega arith)))

pub bit_of_pow_same : (j : ℕ) → bit_of (2 ^ j) j ≡ true
unfolding bit_of
bit_of_pow_same j = ap (λ (x : ℕ). eqb (x / 2 ^ j % 2) 1) (sym (one-mul (2 ^ j))) ∙ ap (λ (x : ℕ). eqb (x % 2) 1) (shl-shr 1 j)

bit_of_pow_low : (d j : ℕ) → bit_of (2 ^ (suc d + j)) j ≡ false
unfolding bit_of
bit_of_pow_low d j =
    ap (λ (x : ℕ). eqb (x / 2 ^ j % 2) 1) (pow-add 2 (suc d) j) ∙ ap (λ (x : ℕ). eqb (x % 2) 1) (shl-shr (2 ^ suc d) j ∙ pow-suc 2 d)
    ∙ ap (λ (x : ℕ). eqb x 1) (mul-mod_left (2 ^ d) 2)

bit_of_pow_high : (b j : ℕ) → b < j → bit_of (2 ^ b) j ≡ false
unfolding bit_of
bit_of_pow_high b j l = ap (λ (x : ℕ). eqb (x % 2) 1) (div-eq_of_lt (pow-lt l))

pub bit_of_pow_other : (b j : ℕ) → j ≢ b → bit_of (2 ^ b) j ≡ false
bit_of_pow_other b j h = go (dec_lt j b)
  where
    go : Dec (j < b) → bit_of (2 ^ b) j ≡ false
    go (yes l) =
        let e : b ≡ suc (b - suc j) + j = omega arith in
        ap (λ (x : ℕ). bit_of (2 ^ x) j) e ∙ bit_of_pow_low (b - suc j) j
    go (no l) = bit_of_pow_high b j (omega arith)

-- a one that is shifted within a word is that power of 2
pub one_shl : (k : ℕ) → k < 64 → (1 * 2 ^ k) % 2 ^ 64 ≡ 2 ^ k
one_shl k h = shl_exact 1 k 64 (omega arith) (omega arith) ∙ one-mul (2 ^ k)

-- ---- laws: a bit that is set

-- a bit goes by its word alone
pub bit_word : (u w : List ℕ) (k : ℕ) → get_or u (k / 64) 0 ≡ get_or w (k / 64) 0 → bit u k ≡ bit w k
unfolding bit
bit_word u w k e = ap (λ (x : ℕ). bit_of x (k % 64)) e

-- bit k of the words from word `at` on stands in word at + k / 64
pub bit_from : (w : List ℕ) (at k : ℕ) → bit w (at * 64 + k) ≡ bit_of (get_or w (at + k / 64) 0) (k % 64)
unfolding bit
bit_from w at k =
    let word : (at * 64 + k) / 64 ≡ at + k / 64 = omega arith in
    let place : (at * 64 + k) % 64 ≡ k % 64 = omega arith in
    rw (word, place) refl

pub length_set_bit : (w : List ℕ) (k : ℕ) → length (set_bit w k) ≡ length w
unfolding set_bit
length_set_bit w k = simp length-set

pub set_bit_same : (w : List ℕ) (k : ℕ) → k < 64 * length w → bit (set_bit w k) k ≡ true
unfolding set_bit bit
set_bit_same w k h =
    ap (λ (x : ℕ). bit_of x (k % 64)) (get_or-set_same w (k / 64) (bit_or (get_or w (k / 64) 0) (2 ^ (k % 64))) 0 (omega arith))
    ∙ bit_of_or (get_or w (k / 64) 0) (2 ^ (k % 64)) (k % 64) ∙ or_right _ (bit_of_pow_same (k % 64))

pub set_bit_other : (w : List ℕ) (k j : ℕ) → j ≢ k → bit (set_bit w k) j ≡ bit w j
unfolding set_bit bit
set_bit_other w k j h = go (ℕ_discrete (j / 64) (k / 64))
  where
    v : ℕ
    v = bit_or (get_or w (k / 64) 0) (2 ^ (k % 64))

    here : j / 64 ≡ k / 64 → k / 64 < length w → bit_of (get_or (set w (k / 64) v) (j / 64) 0) (j % 64) ≡ bit_of (get_or w (j / 64) 0) (j % 64)
    here e b =
        ap (λ (x : ℕ). bit_of (get_or (set w (k / 64) v) x 0) (j % 64)) e ∙ ap (λ (x : ℕ). bit_of x (j % 64)) (get_or-set_same w (k / 64) v 0 b)
        ∙ bit_of_or _ _ (j % 64) ∙ or_off _ _ (bit_of_pow_other (k % 64) (j % 64) (omega arith)) ∙ ap (λ (x : ℕ). bit_of (get_or w x 0) (j % 64)) (sym e)

    inside : j / 64 ≡ k / 64 → Dec (k / 64 < length w) → bit_of (get_or (set w (k / 64) v) (j / 64) 0) (j % 64) ≡ bit_of (get_or w (j / 64) 0) (j % 64)
    inside e (yes b) = here e b
    inside e (no b) = ap (λ (l : List ℕ). bit_of (get_or l (j / 64) 0) (j % 64)) (set_out w (k / 64) v (omega arith))

    go : Dec (j / 64 ≡ k / 64) → bit_of (get_or (set w (k / 64) v) (j / 64) 0) (j % 64) ≡ bit_of (get_or w (j / 64) 0) (j % 64)
    go (yes e) = inside e (dec_lt (k / 64) (length w))
    go (no e) = ap (λ (x : ℕ). bit_of x (j % 64)) (get_or-set_other w (k / 64) (j / 64) v 0 e)

pub length_set_bit_if : (b : Bool) (w : List ℕ) (k : ℕ) → length (set_bit_if b w k) ≡ length w
unfolding set_bit_if
length_set_bit_if true w k = length_set_bit w k
length_set_bit_if false w k = refl

pub set_bit_if_same : (b : Bool) (w : List ℕ) (k : ℕ) → k < 64 * length w → bit (set_bit_if b w k) k ≡ (bit w k or b)
unfolding set_bit_if
set_bit_if_same true w k h = set_bit_same w k h ∙ sym (or_right (bit w k) refl)
set_bit_if_same false w k h = sym (or_off (bit w k) false refl)

pub set_bit_if_other : (b : Bool) (w : List ℕ) (k j : ℕ) → j ≢ k → bit (set_bit_if b w k) j ≡ bit w j
unfolding set_bit_if
set_bit_if_other true w k j h = set_bit_other w k j h
set_bit_if_other false w k j h = refl

-- ---- laws: words that are cleared

pub length_zeros : (w : List ℕ) (from n : ℕ) → length (zeros w from n) ≡ length w
unfolding zeros
length_zeros w from zero = refl
length_zeros w from (suc n) = length-set (zeros w from n) (from + n) 0 ∙ length_zeros w from n

pub zeros_in : (w : List ℕ) (from n x : ℕ) → from + n ≤ length w → from ≤ x → x < from + n → get_or (zeros w from n) x 0 ≡ 0
unfolding zeros
zeros_in w from zero x l a b = absurd (omega arith)
zeros_in w from (suc n) x l a b = go (ℕ_discrete x (from + n)) (λ h. zeros_in w from n x (omega arith) a h)
  where
    go : Dec (x ≡ from + n) → (x < from + n → get_or (zeros w from n) x 0 ≡ 0) → get_or (set (zeros w from n) (from + n) 0) x 0 ≡ 0
    go (yes e) ih = rw e (get_or-set_same (zeros w from n) (from + n) 0 0 (rw length_zeros (omega arith)))
    go (no e) ih = get_or-set_other (zeros w from n) (from + n) x 0 0 e ∙ ih (omega arith)

pub zeros_out : (w : List ℕ) (from n x : ℕ) → (from ≤ x → from + n ≤ x) → get_or (zeros w from n) x 0 ≡ get_or w x 0
unfolding zeros
zeros_out w from zero x h = refl
zeros_out w from (suc n) x h =
    get_or-set_other (zeros w from n) (from + n) x 0 0 (λ e. let g : from + suc n ≤ x = h (omega arith) in omega arith)
    ∙ zeros_out w from n x (λ a. let g : from + suc n ≤ x = h a in omega arith)

pub bit_zeros_in : (w : List ℕ) (from n k : ℕ) → from + n ≤ length w → 64 * from ≤ k → k < 64 * (from + n) → bit (zeros w from n) k ≡ false
unfolding bit
bit_zeros_in w from n k l a b = ap (λ (x : ℕ). bit_of x (k % 64)) (zeros_in w from n (k / 64) l (omega arith) (omega arith)) ∙ bit_of_zero (k % 64)

-- one word more is cleared
pub zeros_more : (w₀ w : List ℕ) (from i : ℕ) → from ≤ i → w ≡ zeros w₀ from (i - from) → set w i 0 ≡ zeros w₀ from (i + 1 - from)
unfolding zeros
zeros_more w₀ w from i h e =
    let a : i + 1 - from ≡ suc (i - from) = omega arith in
    let b : from + (i - from) ≡ i = omega arith in
    rw (e, a, b)

-- words that are cleared all at once
pub zeros_filled : (w : List ℕ) (from n : ℕ) → from + n ≤ length w → put_mid from n w (replicate n 0) ≡ zeros w from n
zeros_filled w from n l = ext_get_or 0 _ _ same (λ k h. go k (dec_lt k from) (dec_lt k (from + n)))
  where
    same : length (put_mid from n w (replicate n 0)) ≡ length (zeros w from n)
    same = rw length_zeros (grind (arith, places))

    go : (k : ℕ) → Dec (k < from) → Dec (k < from + n) → get_or (put_mid from n w (replicate n 0)) k 0 ≡ get_or (zeros w from n) k 0
    go k (yes a) b = rw (zeros_out w from n k (λ g. absurd (omega arith))) (grind (arith, places))
    go k (no a) (yes b) = rw (zeros_in w from n k l (omega arith) b) (grind (arith, places))
    go k (no a) (no b) = rw (zeros_out w from n k (λ g. omega arith)) (grind (arith, places))

-- ---- laws: words that are joined

pub length_join_row : (w : List ℕ) (dst src n : ℕ) → length (join_row w dst src n) ≡ length w
unfolding join_row
length_join_row w dst src zero = refl
length_join_row w dst src (suc n) = length-set (join_row w dst src n) _ _ ∙ length_join_row w dst src n

pub join_row_in : (w : List ℕ) (dst src n m : ℕ) → dst + n ≤ length w → m < n
    → get_or (join_row w dst src n) (dst + m) 0 ≡ bit_or (get_or w (dst + m) 0) (get_or w (src + m) 0)
unfolding join_row
join_row_in w dst src zero m l b = absurd (omega arith)
join_row_in w dst src (suc n) m l b = go (ℕ_discrete m n) (λ h. join_row_in w dst src n m (omega arith) h)
  where
    v : ℕ
    v = bit_or (get_or w (dst + n) 0) (get_or w (src + n) 0)

    go : Dec (m ≡ n) → (m < n → get_or (join_row w dst src n) (dst + m) 0 ≡ bit_or (get_or w (dst + m) 0) (get_or w (src + m) 0))
        → get_or (set (join_row w dst src n) (dst + n) v) (dst + m) 0 ≡ bit_or (get_or w (dst + m) 0) (get_or w (src + m) 0)
    go (yes e) ih = rw e (get_or-set_same (join_row w dst src n) (dst + n) v 0 (rw length_join_row (omega arith)))
    go (no e) ih = get_or-set_other (join_row w dst src n) (dst + n) (dst + m) v 0 (λ q. e (omega arith)) ∙ ih (omega arith)

pub join_row_out : (w : List ℕ) (dst src n x : ℕ) → (dst ≤ x → dst + n ≤ x) → get_or (join_row w dst src n) x 0 ≡ get_or w x 0
unfolding join_row
join_row_out w dst src zero x h = refl
join_row_out w dst src (suc n) x h =
    get_or-set_other (join_row w dst src n) (dst + n) x _ 0 (λ e. let g : dst + suc n ≤ x = h (omega arith) in omega arith)
    ∙ join_row_out w dst src n x (λ a. let g : dst + suc n ≤ x = h a in omega arith)

-- in bits: bit j of the joined words
pub bit_join_row : (w : List ℕ) (dst src n j : ℕ) → dst + n ≤ length w → j < 64 * n
    → bit (join_row w dst src n) (dst * 64 + j) ≡ (bit w (dst * 64 + j) or bit w (src * 64 + j))
unfolding bit
bit_join_row w dst src n j l b =
    let q : (d : ℕ) → (d * 64 + j) / 64 ≡ d + j / 64 = λ d. omega arith in
    let r : (d : ℕ) → (d * 64 + j) % 64 ≡ j % 64 = λ d. omega arith in
    simp (q, r) (ap (λ (x : ℕ). bit_of x (j % 64)) (join_row_in w dst src n (j / 64) l (omega arith)) ∙ bit_of_or _ _ (j % 64))

-- a turn of the loop that joins: what is read has not been written
pub join_row_more : (w₀ w : List ℕ) (dst src n m : ℕ) → (src < dst → src + n ≤ dst) → m < n → w ≡ join_row w₀ dst src m
    → set w (dst + m) (bit_or (get_or w (dst + m) 0) (get_or w (src + m) 0)) ≡ join_row w₀ dst src (m + 1)
unfolding join_row
join_row_more w₀ w dst src n m apart b e =
    let a : get_or (join_row w₀ dst src m) (dst + m) 0 ≡ get_or w₀ (dst + m) 0 = join_row_out w₀ dst src m (dst + m) (λ h. omega arith) in
    let s : get_or (join_row w₀ dst src m) (src + m) 0 ≡ get_or w₀ (src + m) 0 =
    join_row_out w₀ dst src m (src + m) (λ h. go h (dec_lt src dst))
    in
    rw (e, add-one, a, s)
  where
    go : dst ≤ src + m → Dec (src < dst) → dst + m ≤ src + m
    go h (yes l) = let g : src + n ≤ dst = apart l in absurd (omega arith)
    go h (no l) = omega arith
