-- The members of a set of rows. Assumes nothing.
use Rattle.std.specs.Prelude.{◌≡◌, refl, Bool, false, not, ℕ, zero, suc, ◌+◌, ◌-◌, ◌*◌, ◌/◌, ◌%◌, ◌^◌, ◌≤◌, ◌<◌, eqb, ltb}
use Rattle.std.proofs.Common.{sym, ap, ◌∙◌, arith, eq-eqb, ne_eqb, lt-ltb, le-ltb}
use Rattle.std.proofs.Math.Decide.{dec_lt, ℕ_discrete}
use Rattle.std.specs.Int.Bits.{bit_and, bit_or, bit_xor}
use Rattle.finite.specs.Logic.{◌and◌, ◌or◌, and_false_left, and_false_right, or_none, and_on, and_on_right}
use Rattle.model.specs.Limits.{ROWS}
use Rattle.bits.specs.Bit.{bit_of, bit_of_zero, bit_of_or, bit_of_pow_same, bit_of_pow_other, one_shl}
use Rattle.work_sets.specs.Lowest.{bit_of_and}
use Rattle.sets_of_rows.specs.declared.Set.{Set}
use Rattle.sets_of_rows.specs.Word.{bit_of_less, bit_of_ones, bit_of_above}

-- ---- definitions

-- the words of a set, 0 past them
unfoldable pub word_of : Set → ℕ → ℕ
word_of x zero = x.lo
word_of x (suc zero) = x.hi
word_of x (suc (suc k)) = 0

-- row j is a member: bit j % 64 of word j / 64
unfoldable pub in_set : Set → ℕ → Bool
in_set x j = bit_of (word_of x (j / 64)) (j % 64)

abbrev pub of : ℕ → ℕ → Set
of l h = record { lo = l; hi = h }

-- ---- laws: by words

pub in_low : (x : Set) (j : ℕ) → j < 64 → in_set x j ≡ bit_of x.lo j
unfolding in_set word_of
in_low x j l =
    let d : j / 64 ≡ 0 = omega arith in
    let r : j % 64 ≡ j = omega arith in
    rw (d, r) refl

pub in_high : (x : Set) (j : ℕ) → j < 64 → in_set x (64 + j) ≡ bit_of x.hi j
unfolding in_set word_of
in_high x j l =
    let d : (64 + j) / 64 ≡ 1 = omega arith in
    let r : (64 + j) % 64 ≡ j = omega arith in
    rw (d, r) refl

pub in_none : (x : Set) (j : ℕ) → ROWS ≤ j → in_set x j ≡ false
unfolding in_set word_of
in_none x j l =
    let d : j / 64 ≡ suc (suc (j / 64 - 2)) = omega arith in
    rw d (bit_of_zero (j % 64))

-- what is so of each word's bits, and of no number past them
pub by_words : (x : Set) (p : ℕ → Bool) → ((j : ℕ) → j < 64 → bit_of x.lo j ≡ p j) → ((j : ℕ) → j < 64 → bit_of x.hi j ≡ p (64 + j))
    → ((j : ℕ) → ROWS ≤ j → p j ≡ false) → (j : ℕ) → in_set x j ≡ p j
by_words x p lo hi out j = go (dec_lt j 64) (dec_lt j ROWS)
  where
    go : Dec (j < 64) → Dec (j < ROWS) → in_set x j ≡ p j
    go (yes l) d = in_low x j l ∙ lo j l
    go (no l) (yes m) =
        let e : j ≡ 64 + (j - 64) = omega arith in
        ap (in_set x) e ∙ in_high x (j - 64) (omega arith) ∙ hi (j - 64) (omega arith) ∙ ap p (sym e)
    go (no l) (no m) = in_none x j (omega arith) ∙ sym (out j (omega arith))

-- ---- laws: sets that are made

pub none_is : (j : ℕ) → in_set (of 0 0) j ≡ false
none_is = by_words (of 0 0) (λ j. false) (λ j l. bit_of_zero j) (λ j l. bit_of_zero j) (λ j l. refl)

-- one bit of a word
one_bit : (i j : ℕ) → bit_of (2 ^ i) j ≡ eqb j i
one_bit i j = go (ℕ_discrete j i)
  where
    go : Dec (j ≡ i) → bit_of (2 ^ i) j ≡ eqb j i
    go (yes e) = ap (bit_of (2 ^ i)) e ∙ bit_of_pow_same i ∙ sym (eq-eqb j i e)
    go (no e) = bit_of_pow_other i j e ∙ sym (ne_eqb j i e)

eqb_add : (i j : ℕ) → 64 ≤ i → eqb j (i - 64) ≡ eqb (64 + j) i
eqb_add i j l = go (ℕ_discrete j (i - 64))
  where
    go : Dec (j ≡ i - 64) → eqb j (i - 64) ≡ eqb (64 + j) i
    go (yes e) = eq-eqb j (i - 64) e ∙ sym (eq-eqb (64 + j) i (omega arith))
    go (no e) = ne_eqb j (i - 64) e ∙ sym (ne_eqb (64 + j) i (λ f. e (omega arith)))

pow_low : (i : ℕ) → i < 64 → (j : ℕ) → in_set (of (2 ^ i) 0) j ≡ eqb j i
pow_low i l =
    by_words (of (2 ^ i) 0) (λ j. eqb j i) (λ j h. one_bit i j) (λ j h. bit_of_zero j ∙ sym (ne_eqb (64 + j) i (λ e. omega arith)))
    (λ j h. ne_eqb j i (λ e. omega arith))

pow_high : (i : ℕ) → 64 ≤ i → i < ROWS → (j : ℕ) → in_set (of 0 (2 ^ (i - 64))) j ≡ eqb j i
pow_high i l m =
    by_words (of 0 (2 ^ (i - 64))) (λ j. eqb j i) (λ j h. bit_of_zero j ∙ sym (ne_eqb j i (λ e. omega arith))) (λ j h. one_bit (i - 64) j ∙ eqb_add i j l)
    (λ j h. ne_eqb j i (λ e. omega arith))

pub bit_low : (i : ℕ) → i < 64 → (j : ℕ) → in_set (of (1 * 2 ^ i % 2 ^ 64) 0) j ≡ eqb j i
bit_low i l j = ap (λ (z : ℕ). in_set (of z 0) j) (one_shl i l) ∙ pow_low i l j

pub bit_high : (i : ℕ) → 64 ≤ i → i < ROWS → (j : ℕ) → in_set (of 0 (1 * 2 ^ (i - 64) % 2 ^ 64)) j ≡ eqb j i
bit_high i l m j = ap (λ (z : ℕ). in_set (of 0 z) j) (one_shl (i - 64) (omega arith)) ∙ pow_high i l m j

ltb_add : (i j : ℕ) → 64 ≤ i → ltb j (i - 64) ≡ ltb (64 + j) i
ltb_add i j l = go (dec_lt j (i - 64))
  where
    go : Dec (j < i - 64) → ltb j (i - 64) ≡ ltb (64 + j) i
    go (yes e) = lt-ltb j (i - 64) e ∙ sym (lt-ltb (64 + j) i (omega arith))
    go (no e) = le-ltb j (i - 64) (omega arith) ∙ sym (le-ltb (64 + j) i (omega arith))

ltb_sub : (i j : ℕ) → 64 ≤ i → ltb (i - 64) j ≡ ltb i (64 + j)
ltb_sub i j l = go (dec_lt (i - 64) j)
  where
    go : Dec (i - 64 < j) → ltb (i - 64) j ≡ ltb i (64 + j)
    go (yes e) = lt-ltb (i - 64) j e ∙ sym (lt-ltb i (64 + j) (omega arith))
    go (no e) = le-ltb (i - 64) j (omega arith) ∙ sym (le-ltb i (64 + j) (omega arith))

ones_low : (n : ℕ) → n < 64 → (j : ℕ) → in_set (of (2 ^ n - 1) 0) j ≡ ltb j n
ones_low n l =
    by_words (of (2 ^ n - 1) 0) (λ j. ltb j n) (λ j h. bit_of_ones n j) (λ j h. bit_of_zero j ∙ sym (le-ltb (64 + j) n (omega arith)))
    (λ j h. le-ltb j n (omega arith))

ones_high : (n : ℕ) → 64 ≤ n → n ≤ ROWS → (j : ℕ) → in_set (of 18446744073709551615 (2 ^ (n - 64) - 1)) j ≡ ltb j n
ones_high n l m =
    by_words (of 18446744073709551615 (2 ^ (n - 64) - 1)) (λ j. ltb j n)
    (λ j h. bit_of_ones 64 j ∙ lt-ltb j 64 h ∙ sym (lt-ltb j n (omega arith)))
    (λ j h. bit_of_ones (n - 64) j ∙ ltb_add n j l) (λ j h. le-ltb j n (omega arith))

pub below_low : (n x : ℕ) → n < 64 → x ≡ 2 ^ n - 1 → (j : ℕ) → in_set (of x 0) j ≡ ltb j n
below_low n x l e j = ap (λ (z : ℕ). in_set (of z 0) j) e ∙ ones_low n l j

pub below_high : (n x : ℕ) → 64 ≤ n → n ≤ ROWS → x ≡ 2 ^ (n - 64) - 1 → (j : ℕ) → in_set (of 18446744073709551615 x) j ≡ ltb j n
below_high n x l m e j = ap (λ (z : ℕ). in_set (of 18446744073709551615 z) j) e ∙ ones_high n l m j

pub above_low : (i : ℕ) → i < 64 → (j : ℕ) → in_set (of (18446744073709551614 * 2 ^ i % 2 ^ 64) 18446744073709551615) j ≡ (ltb i j and ltb j ROWS)
above_low i l =
    by_words (of (18446744073709551614 * 2 ^ i % 2 ^ 64) 18446744073709551615) (λ j. ltb i j and ltb j ROWS)
    (λ j h. bit_of_above i j l h ∙ sym (and_on_right (ltb i j) (ltb j ROWS) (lt-ltb j ROWS (omega arith))))
    (λ j h. bit_of_ones 64 j ∙ lt-ltb j 64 h ∙ sym (and_on (ltb i (64 + j)) (ltb (64 + j) ROWS) (lt-ltb i (64 + j) (omega arith)) ∙ lt-ltb (64 + j) ROWS (omega arith)))
    (λ j h. and_false_right (ltb i j) (ltb j ROWS) (le-ltb j ROWS h))

pub above_high : (i : ℕ) → 64 ≤ i → i < ROWS → (j : ℕ) → in_set (of 0 (18446744073709551614 * 2 ^ (i - 64) % 2 ^ 64)) j ≡ (ltb i j and ltb j ROWS)
above_high i l m =
    by_words (of 0 (18446744073709551614 * 2 ^ (i - 64) % 2 ^ 64)) (λ j. ltb i j and ltb j ROWS)
    (λ j h. bit_of_zero j ∙ sym (and_false_left (ltb i j) (ltb j ROWS) (le-ltb i j (omega arith))))
    (λ j h. bit_of_above (i - 64) j (omega arith) h ∙ ltb_sub i j l
    ∙ sym (and_on_right (ltb i (64 + j)) (ltb (64 + j) ROWS) (lt-ltb (64 + j) ROWS (omega arith))))
    (λ j h. and_false_right (ltb i j) (ltb j ROWS) (le-ltb j ROWS h))

-- ---- laws: sets of sets

pub or_is : (a b : Set) (j : ℕ) → in_set (of (bit_or a.lo b.lo) (bit_or a.hi b.hi)) j ≡ (in_set a j or in_set b j)
or_is a b =
    by_words (of (bit_or a.lo b.lo) (bit_or a.hi b.hi)) (λ j. in_set a j or in_set b j)
    (λ j h. rw (in_low a j h, in_low b j h) (bit_of_or a.lo b.lo j))
    (λ j h. rw (in_high a j h, in_high b j h) (bit_of_or a.hi b.hi j)) (λ j h. or_none (in_none a j h) (in_none b j h))

pub and_is : (a b : Set) (j : ℕ) → in_set (of (bit_and a.lo b.lo) (bit_and a.hi b.hi)) j ≡ (in_set a j and in_set b j)
and_is a b =
    by_words (of (bit_and a.lo b.lo) (bit_and a.hi b.hi)) (λ j. in_set a j and in_set b j)
    (λ j h. rw (in_low a j h, in_low b j h) (bit_of_and a.lo b.lo j))
    (λ j h. rw (in_high a j h, in_high b j h) (bit_of_and a.hi b.hi j)) (λ j h. and_false_left _ _ (in_none a j h))

pub less_is : (a b : Set) (j : ℕ) → in_set (of (bit_xor a.lo (bit_and a.lo b.lo)) (bit_xor a.hi (bit_and a.hi b.hi))) j
    ≡ (in_set a j and not (in_set b j))
less_is a b =
    by_words (of (bit_xor a.lo (bit_and a.lo b.lo)) (bit_xor a.hi (bit_and a.hi b.hi))) (λ j. in_set a j and not (in_set b j))
    (λ j h. rw (in_low a j h, in_low b j h) (bit_of_less a.lo b.lo j))
    (λ j h. rw (in_high a j h, in_high b j h) (bit_of_less a.hi b.hi j)) (λ j h. and_false_left _ _ (in_none a j h))

-- ---- laws: one member

pub has_low : (a : Set) (i : ℕ) → i < 64 → eqb (a.lo / 2 ^ i % 2) 1 ≡ in_set a i
unfolding bit_of
has_low a i l = sym (in_low a i l)

pub has_high : (a : Set) (i : ℕ) → 64 ≤ i → i < ROWS → eqb (a.hi / 2 ^ (i - 64) % 2) 1 ≡ in_set a i
unfolding bit_of
has_high a i l m = let e : i ≡ 64 + (i - 64) = omega arith in sym (ap (in_set a) e ∙ in_high a (i - 64) (omega arith))

pub drop_is : (a b r : Set) (i : ℕ) → ((j : ℕ) → in_set b j ≡ eqb j i) → ((j : ℕ) → in_set r j ≡ (in_set a j and not (in_set b j)))
    → (j : ℕ) → in_set r j ≡ (in_set a j and not (eqb j i))
drop_is a b r i f g j = g j ∙ ap (λ (z : Bool). in_set a j and not z) (f j)
