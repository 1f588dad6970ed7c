-- Bits of a number: of its parts, of shifted numbers, of a run of ones; the highest; how many. Assumes nothing.
use Rattle.std.specs.Prelude.{◌≡◌, refl, Bool, true, false, not, ℕ, zero, suc, ◌+◌, ◌-◌, ◌*◌, ◌/◌, ◌%◌, ◌^◌, ◌≤◌, ◌<◌, eqb, ltb}
use Rattle.std.proofs.Common.{sym, ap, ap₂, ◌∙◌, arith, pow-suc, mul_assoc, pow-add, pow_mono, lt-ltb, le-ltb}
use Rattle.std.proofs.Math.Nat.{div-eq_of_lt, one-le-pow, mul-mod_left, div-div-eq-div-mul}
use Rattle.std.proofs.Math.Decide.{dec_lt, ℕ_discrete}
use Rattle.std.specs.Int.Bits.{bit_and, bit_xor}
use Rattle.std.proofs.lemmas.Nat.{xor_shr, xor_mod, shl-shr}
use Rattle.std.proofs.Math.Pow.{field, mod-mod-pow}
use Rattle.std.specs.Int.Count.{ones, ones_step}
use Rattle.finite.specs.Logic.{◌and◌, ◌or◌, not_both}
use Rattle.finite.specs.Count.{one, count_below, count_cong}
use Rattle.bits.specs.Bit.{bit_of, bit_of_zero}
use Rattle.work_sets.specs.Lowest.{bit_of_and, bit_of_half}

-- ---- laws: differences

xor_digit : (x y : ℕ) → x < 2 → y < 2 → eqb (bit_xor x y) 1 ≡ ((eqb x 1 and not (eqb y 1)) or (eqb y 1 and not (eqb x 1)))
unfolding ◌and◌ ◌or◌
xor_digit zero zero p q = refl
xor_digit zero (suc zero) p q = refl
xor_digit zero (suc (suc y)) p q = absurd (omega arith)
xor_digit (suc zero) zero p q = refl
xor_digit (suc zero) (suc zero) p q = refl
xor_digit (suc zero) (suc (suc y)) p q = absurd (omega arith)
xor_digit (suc (suc x)) y p q = absurd (omega arith)

pub bit_of_xor : (a b j : ℕ) → bit_of (bit_xor a b) j ≡ ((bit_of a j and not (bit_of b j)) or (bit_of b j and not (bit_of a j)))
unfolding bit_of
bit_of_xor a b j =
    ap (λ (x : ℕ). eqb (x % 2) 1) (xor_shr a b j) ∙ ap (λ (x : ℕ). eqb x 1) (xor_mod (a / 2 ^ j) (b / 2 ^ j) 1)
    ∙ xor_digit (a / 2 ^ j % 2) (b / 2 ^ j % 2) (omega arith) (omega arith)

but_both : (x y : Bool) → ((x and not (x and y)) or ((x and y) and not x)) ≡ (x and not y)
unfolding ◌and◌ ◌or◌
but_both true true = refl
but_both true false = refl
but_both false y = refl

-- what a has and b has not
pub bit_of_less : (a b j : ℕ) → bit_of (bit_xor a (bit_and a b)) j ≡ (bit_of a j and not (bit_of b j))
bit_of_less a b j =
    let e : ((bit_of a j and not (bit_of (bit_and a b) j)) or (bit_of (bit_and a b) j and not (bit_of a j))) ≡ (bit_of a j and not (bit_of b j)) =
    rw (bit_of_and a b j) (but_both (bit_of a j) (bit_of b j))
    in
    bit_of_xor a (bit_and a b) j ∙ e

-- ---- laws: numbers that are shifted

-- a bit of the word that a number is cut to
pub bit_of_cut : (x d j : ℕ) → j < d → bit_of (x % 2 ^ d) j ≡ bit_of x j
unfolding bit_of
bit_of_cut x d j l =
    let e : d ≡ suc (d - suc j) + j = omega arith in
    let f : x % 2 ^ d / 2 ^ j ≡ x / 2 ^ j % 2 ^ suc (d - suc j) = ap (λ (z : ℕ). x % 2 ^ z / 2 ^ j) e ∙ field x (suc (d - suc j)) j in
    let g : x / 2 ^ j % 2 ^ suc (d - suc j) % 2 ≡ x / 2 ^ j % 2 = odd (x / 2 ^ j) (d - suc j) in
    ap (λ (z : ℕ). eqb (z % 2) 1) f ∙ ap (λ (z : ℕ). eqb z 1) g
  where
    odd : (y k : ℕ) → y % 2 ^ suc k % 2 ≡ y % 2
    odd y k = ap (λ (z : ℕ). y % 2 ^ z % 2) (let e : suc k ≡ k + 1 = omega arith in e) ∙ mod-mod-pow y k 1

-- below the place that it is shifted to a number has no bit
pub bit_of_shl_low : (a i j : ℕ) → j < i → bit_of (a * 2 ^ i) j ≡ false
unfolding bit_of
bit_of_shl_low a i j l =
    let e : i ≡ suc (i - suc j) + j = omega arith in
    let f : a * 2 ^ i ≡ a * 2 ^ suc (i - suc j) * 2 ^ j =
    ap (λ (z : ℕ). a * 2 ^ z) e ∙ ap (λ (z : ℕ). a * z) (pow-add 2 (suc (i - suc j)) j) ∙ sym (mul_assoc a (2 ^ suc (i - suc j)) (2 ^ j))
    in
    let g : a * 2 ^ suc (i - suc j) ≡ a * 2 ^ (i - suc j) * 2 = ap (λ (z : ℕ). a * z) (pow-suc 2 (i - suc j)) ∙ sym (mul_assoc a (2 ^ (i - suc j)) 2) in
    ap (λ (z : ℕ). eqb (z / 2 ^ j % 2) 1) f ∙ ap (λ (z : ℕ). eqb (z % 2) 1) (shl-shr (a * 2 ^ suc (i - suc j)) j)
    ∙ ap (λ (z : ℕ). eqb (z % 2) 1) g ∙ ap (λ (z : ℕ). eqb z 1) (mul-mod_left (a * 2 ^ (i - suc j)) 2)

-- from there on it has its own
pub bit_of_shl_high : (a i k : ℕ) → bit_of (a * 2 ^ i) (i + k) ≡ bit_of a k
unfolding bit_of
bit_of_shl_high a i k =
    ap (λ (z : ℕ). eqb (a * 2 ^ i / z % 2) 1) (pow-add 2 i k) ∙ ap (λ (z : ℕ). eqb (z % 2) 1) (sym (div-div-eq-div-mul (a * 2 ^ i) (2 ^ i) (2 ^ k)))
    ∙ ap (λ (z : ℕ). eqb (z / 2 ^ k % 2) 1) (shl-shr a i)

-- ---- laws: runs of ones

pub bit_of_even : (x : ℕ) → x % 2 ≡ 0 → bit_of x 0 ≡ false
unfolding bit_of
bit_of_even x h = ap (λ (z : ℕ). eqb (z % 2) 1) (let e : x / 2 ^ 0 ≡ x = omega arith in e) ∙ ap (λ (z : ℕ). eqb z 1) h

pub bit_of_odd : (x : ℕ) → x % 2 ≡ 1 → bit_of x 0 ≡ true
unfolding bit_of
bit_of_odd x h = ap (λ (z : ℕ). eqb (z % 2) 1) (let e : x / 2 ^ 0 ≡ x = omega arith in e) ∙ ap (λ (z : ℕ). eqb z 1) h

pub bit_of_ones : (n j : ℕ) → bit_of (2 ^ n - 1) j ≡ ltb j n
bit_of_ones zero j = bit_of_zero j ∙ sym (le-ltb j 0 (omega arith))
bit_of_ones (suc n) zero =
    let e : 2 ^ suc n ≡ 2 ^ n * 2 = pow-suc 2 n in
    let p : 1 ≤ 2 ^ n = one-le-pow n 2 (omega arith) in
    bit_of_odd (2 ^ suc n - 1) (omega arith) ∙ sym (lt-ltb 0 (suc n) (omega arith))
bit_of_ones (suc n) (suc j) =
    let e : 2 ^ suc n ≡ 2 ^ n * 2 = pow-suc 2 n in
    let p : 1 ≤ 2 ^ n = one-le-pow n 2 (omega arith) in
    let h : (2 ^ suc n - 1) / 2 ≡ 2 ^ n - 1 = omega arith in
    bit_of_half (2 ^ suc n - 1) j ∙ ap (λ (z : ℕ). bit_of z j) h ∙ bit_of_ones n j ∙ up (dec_lt j n)
  where
    up : Dec (j < n) → ltb j n ≡ ltb (suc j) (suc n)
    up (yes l) = lt-ltb j n l ∙ sym (lt-ltb (suc j) (suc n) (omega arith))
    up (no l) = le-ltb j n (omega arith) ∙ sym (le-ltb (suc j) (suc n) (omega arith))

-- a number that is small has no bits above
pub bit_of_small : (x d j : ℕ) → x < 2 ^ d → d ≤ j → bit_of x j ≡ false
unfolding bit_of
bit_of_small x d j l h =
    let m : 2 ^ d ≤ 2 ^ j = pow_mono h in
    let n : x < 2 ^ j = omega arith in
    ap (λ (z : ℕ). eqb (z % 2) 1) (div-eq_of_lt n)

-- all bits above bit i of a word
pub bit_of_above : (i j : ℕ) → i < 64 → j < 64 → bit_of (18446744073709551614 * 2 ^ i % 2 ^ 64) j ≡ ltb i j
bit_of_above i j p q = bit_of_cut (18446744073709551614 * 2 ^ i) 64 j q ∙ go (dec_lt i j)
  where
    shifted : (k : ℕ) → i + suc k < 64 → bit_of (18446744073709551614 * 2 ^ i) (i + suc k) ≡ true
    shifted k l =
        bit_of_shl_high 18446744073709551614 i (suc k) ∙ bit_of_half 18446744073709551614 k ∙ bit_of_ones 63 k ∙ lt-ltb k 63 (omega arith)

    go : Dec (i < j) → bit_of (18446744073709551614 * 2 ^ i) j ≡ ltb i j
    go (yes l) =
        let e : j ≡ i + suc (j - suc i) = omega arith in
        ap (bit_of (18446744073709551614 * 2 ^ i)) e ∙ shifted (j - suc i) (omega arith) ∙ sym (lt-ltb i j l)
    go (no l) = at (ℕ_discrete j i) ∙ sym (le-ltb i j (omega arith))
      where
        at : Dec (j ≡ i) → bit_of (18446744073709551614 * 2 ^ i) j ≡ false
        at (yes e) =
            let f : j ≡ i + 0 = omega arith in
            ap (bit_of (18446744073709551614 * 2 ^ i)) f ∙ bit_of_shl_high 18446744073709551614 i 0 ∙ bit_of_even 18446744073709551614 refl
        at (no e) = bit_of_shl_low 18446744073709551614 i j (omega arith)

-- ---- laws: a number that is not 0 has a bit

pub bit_of_none : (d x : ℕ) → x < 2 ^ d → ((j : ℕ) → j < d → bit_of x j ≡ false) → x ≡ 0
bit_of_none zero x l h = omega arith
bit_of_none (suc d) x l h =
    let e : 2 ^ suc d ≡ 2 ^ d * 2 = pow-suc 2 d in
    let r : x / 2 ≡ 0 = bit_of_none d (x / 2) (omega arith) (λ j m. sym (bit_of_half x j) ∙ h (suc j) (omega arith)) in
    go (ℕ_discrete (x % 2) 1) r
  where
    go : Dec (x % 2 ≡ 1) → x / 2 ≡ 0 → x ≡ 0
    go (yes q) r = not_both (bit_of_odd x q) (h 0 (omega arith))
    go (no q) r = omega arith

-- ---- laws: how many bits

pub count_shift : (d : ℕ) (p : ℕ → Bool) → count_below (suc d) p ≡ one (p 0) + count_below d (λ j. p (suc j))
unfolding count_below
count_shift zero p = omega arith
count_shift (suc d) p = let e = count_shift d p in omega arith

digit : (x : ℕ) → Dec (x % 2 ≡ 1) → x % 2 ≡ one (bit_of x 0)
unfolding one
digit x (yes e) = e ∙ rw (bit_of_odd x e) refl
digit x (no e) = let z : x % 2 ≡ 0 = omega arith in z ∙ rw (bit_of_even x z) refl

pub ones_count : (d x : ℕ) → x < 2 ^ d → ones x ≡ count_below d (bit_of x)
unfolding count_below ones
ones_count zero x l = let e : x ≡ 0 = omega arith in ap ones e ∙ none
  where
    none : ones 0 ≡ count_below 0 (bit_of x)
    none = refl
ones_count (suc d) x l =
    let e : 2 ^ suc d ≡ 2 ^ d * 2 = pow-suc 2 d in
    let f : ones (x / 2) ≡ count_below d (bit_of (x / 2)) = ones_count d (x / 2) (omega arith) in
    let g : count_below d (bit_of (x / 2)) ≡ count_below d (λ j. bit_of x (suc j)) = count_cong (bit_of (x / 2)) (λ j. bit_of x (suc j)) d (λ k h. sym (bit_of_half x k)) in
    let h : x % 2 ≡ one (bit_of x 0) = digit x (ℕ_discrete (x % 2) 1) in
    ones_step x ∙ ap₂ (λ (a b : ℕ). a + b) h (f ∙ g) ∙ sym (count_shift d (bit_of x))

pub count_add : (m n : ℕ) (p : ℕ → Bool) → count_below (m + n) p ≡ count_below m p + count_below n (λ j. p (m + j))
unfolding count_below
count_add m zero p = let e : m + 0 ≡ m = omega arith in rw e (omega arith)
count_add m (suc n) p =
    let e : m + suc n ≡ suc (m + n) = omega arith in
    let f = count_add m n p in
    rw e (omega arith)
