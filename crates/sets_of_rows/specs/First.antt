-- The first and the last member of a set, the rest, and how many there are. Assumes nothing.
use Rattle.std.specs.Prelude.{Option, None, Some, IsSome, MatchOption, ◌≡◌, refl, true, false, not, ℕ, ◌+◌, ◌-◌, ◌^◌, ◌≤◌, ◌<◌, eqb, ltb}
use Rattle.std.proofs.Common.{subst, sym, ap, ap₂, ◌∙◌, ⊎_elim, arith, eq-eqb, ne_eqb, lt-ltb, le-ltb}
use Rattle.std.proofs.Math.Decide.{dec_lt, ℕ_discrete}
use Rattle.std.specs.Int.Bits.{bit_and, bit_or}
use Rattle.std.specs.Int.Count.{ones, count_trailing_zeros, trailing_of_zero}
use Rattle.std.proofs.lemmas.Nat.{ones-le}
use Rattle.finite.specs.Logic.{◌and◌, which, not_both, not_in, or_false, and_false_right, and_on_right}
use Rattle.finite.specs.Below.{any_below, any_in, any_out, least, least_is, least_hit, least_unique, least_off}
use Rattle.finite.specs.Count.{count_below, count_cong}
use Rattle.model.specs.Limits.{ROWS}
use Rattle.bits.specs.Bit.{bit_of, bit_of_zero, bit_of_or}
use Rattle.work_sets.specs.Lowest.{Lowest, lowest_is, lowest_small, Dropped, drop_is}
use Rattle.sets_of_rows.specs.declared.Set.{Set}
use Rattle.sets_of_rows.specs.Member.{in_set, of, in_low, in_high, in_none, by_words}
use Rattle.sets_of_rows.specs.Word.{bit_of_none, ones_count, count_add}

-- ---- definitions

-- the least member
pub record First (x : Set) (i : ℕ) : Type 0 where
  pub bound : i < ROWS
  pub hit : in_set x i ≡ true
  pub miss : (k : ℕ) → k < i → in_set x k ≡ false

-- the greatest member
pub record Last (x : Set) (i : ℕ) : Type 0 where
  pub bound : i < ROWS
  pub hit : in_set x i ≡ true
  pub miss : (k : ℕ) → i < k → in_set x k ≡ false

-- the least member's number, ROWS where there is none
abbrev pub next : Set → ℕ
next x = least ROWS (in_set x)

-- r is x without its first member
pub record Rest (x r : Set) : Type 0 where
  pub is : (j : ℕ) → in_set r j ≡ (in_set x j and not (eqb j (next x)))

-- ---- laws: whether there is a member

pub some_low : (a : Set) → 0 < a.lo → a.lo < 2 ^ 64 → any_below ROWS (in_set a) ≡ true
some_low a p l =
    let t = count_trailing_zeros 64 a.lo in
    let s : t < 64 = lowest_small 64 a.lo p l in
    any_in (in_set a) ROWS t (omega arith) (in_low a t s ∙ (lowest_is 64 a.lo p l).hit)

pub some_high : (a : Set) → 0 < a.hi → a.hi < 2 ^ 64 → any_below ROWS (in_set a) ≡ true
some_high a p l =
    let t = count_trailing_zeros 64 a.hi in
    let s : t < 64 = lowest_small 64 a.hi p l in
    any_in (in_set a) ROWS (64 + t) (omega arith) (in_high a t s ∙ (lowest_is 64 a.hi p l).hit)

-- words that are 0 have none
pub none_in : (a : Set) → a.lo ≡ 0 → a.hi ≡ 0 → (j : ℕ) → in_set a j ≡ false
none_in a e f = by_words a (λ j. false) (λ j l. ap (λ (x : ℕ). bit_of x j) e ∙ bit_of_zero j) (λ j l. ap (λ (x : ℕ). bit_of x j) f ∙ bit_of_zero j) (λ j l. refl)

-- of two words that are 0 together each is
or_zero : (x y : ℕ) → x < 2 ^ 64 → bit_or x y ≡ 0 → x ≡ 0
or_zero x y l e =
    bit_of_none 64 x l (λ j h. (or_false (bit_of x j) (bit_of y j) (sym (bit_of_or x y j) ∙ ap (λ (z : ℕ). bit_of z j) e ∙ bit_of_zero j)).0)

or_zero_right : (x y : ℕ) → y < 2 ^ 64 → bit_or x y ≡ 0 → y ≡ 0
or_zero_right x y l e =
    bit_of_none 64 y l (λ j h. (or_false (bit_of x j) (bit_of y j) (sym (bit_of_or x y j) ∙ ap (λ (z : ℕ). bit_of z j) e ∙ bit_of_zero j)).1)

pub some_is : (a : Set) → a.lo < 2 ^ 64 → a.hi < 2 ^ 64 → ltb 0 (bit_or a.lo a.hi) ≡ any_below ROWS (in_set a)
some_is a l m = go (dec_lt 0 (bit_or a.lo a.hi))
  where
    zero_of : bit_or 0 0 ≡ 0
    zero_of = refl

    on : 0 < bit_or a.lo a.hi → Dec (0 < a.lo) → Dec (0 < a.hi) → any_below ROWS (in_set a) ≡ true
    on p (yes q) d = some_low a q l
    on p (no q) (yes r) = some_high a r m
    on p (no q) (no r) =
        let e : a.lo ≡ 0 = omega arith in
        let f : a.hi ≡ 0 = omega arith in
        let g : bit_or a.lo a.hi ≡ 0 = ap₂ bit_or e f ∙ zero_of in
        absurd (omega arith)

    go : Dec (0 < bit_or a.lo a.hi) → ltb 0 (bit_or a.lo a.hi) ≡ any_below ROWS (in_set a)
    go (yes p) = lt-ltb 0 (bit_or a.lo a.hi) p ∙ sym (on p (dec_lt 0 a.lo) (dec_lt 0 a.hi))
    go (no p) =
        let e : bit_or a.lo a.hi ≡ 0 = omega arith in
        le-ltb 0 (bit_or a.lo a.hi) (omega arith)
        ∙ sym (off (none_in a (or_zero a.lo a.hi l e) (or_zero_right a.lo a.hi m e)))
      where
        off : ((j : ℕ) → in_set a j ≡ false) → any_below ROWS (in_set a) ≡ false
        off h = ⊎_elim (λ t. let r = any_out (in_set a) ROWS t in not_both r.2 (h r.0)) (λ e. e) (which (any_below ROWS (in_set a)))

-- a set with a member and no low word has a high word
pub high_some : (a : Set) → a.lo ≡ 0 → any_below ROWS (in_set a) ≡ true → 0 < a.hi
high_some a e s = go (dec_lt 0 a.hi)
  where
    go : Dec (0 < a.hi) → 0 < a.hi
    go (yes p) = p
    go (no p) = let r = any_out (in_set a) ROWS s in not_both r.2 (none_in a e (omega arith) r.0)

-- ---- laws: the first

pub first_next : {x : Set} {i : ℕ} → First x i → next x ≡ i
first_next {x} {i} f = least_unique (in_set x) ROWS i f.bound f.hit f.miss

pub first_of : (x : Set) → any_below ROWS (in_set x) ≡ true → First x (next x)
first_of x s =
    let h = least_hit (in_set x) ROWS s in
    record { bound = h.0; hit = h.1; miss = (least_is (in_set x) ROWS).miss }

pub first_low : (a : Set) → 0 < a.lo → a.lo < 2 ^ 64 → First a (count_trailing_zeros 64 a.lo)
first_low a p l =
    let t = count_trailing_zeros 64 a.lo in
    let s : t < 64 = lowest_small 64 a.lo p l in
    let f = lowest_is 64 a.lo p l in
    record { bound = omega arith; hit = in_low a t s ∙ f.hit; miss = λ k h. in_low a k (omega arith) ∙ f.miss k h }

pub first_high : (a : Set) → a.lo ≡ 0 → 0 < a.hi → a.hi < 2 ^ 64 → First a (64 + count_trailing_zeros 64 a.hi)
first_high a e p l = record { bound = omega (arith, s); hit = in_high a t s ∙ f.hit; miss = λ k h. before k h (dec_lt k 64) }
  where
    t : ℕ
    t = count_trailing_zeros 64 a.hi

    s : t < 64
    s = lowest_small 64 a.hi p l

    f : Lowest a.hi t
    f = lowest_is 64 a.hi p l

    before : (k : ℕ) → k < 64 + t → Dec (k < 64) → in_set a k ≡ false
    before k h (yes q) = in_low a k q ∙ ap (λ (x : ℕ). bit_of x k) e ∙ bit_of_zero k
    before k h (no q) =
        let g : k ≡ 64 + (k - 64) = omega arith in
        ap (in_set a) g ∙ in_high a (k - 64) (omega (arith, s)) ∙ f.miss (k - 64) (omega arith)

-- the first by words, or ROWS where there is none
pub least_low_word : (a : Set) → 0 < a.lo → a.lo < 2 ^ 64 → (count_trailing_zeros 64 a.lo ≡ next a) × (count_trailing_zeros 64 a.lo ≤ ROWS)
least_low_word a p l = let f = first_low a p l in let b = f.bound in (sym (first_next f), omega arith)

pub least_high_word : (a : Set) → a.lo ≡ 0 → a.hi < 2 ^ 64 → (64 + count_trailing_zeros 64 a.hi ≡ next a) × (64 + count_trailing_zeros 64 a.hi ≤ ROWS)
least_high_word a e l = go (dec_lt 0 a.hi)
  where
    go : Dec (0 < a.hi) → (64 + count_trailing_zeros 64 a.hi ≡ next a) × (64 + count_trailing_zeros 64 a.hi ≤ ROWS)
    go (yes p) = let f = first_high a e p l in let b = f.bound in (sym (first_next f), omega arith)
    go (no p) =
        let z : a.hi ≡ 0 = omega arith in
        let t : count_trailing_zeros 64 a.hi ≡ 64 = ap (count_trailing_zeros 64) z ∙ trailing_of_zero 64 in
        let n : next a ≡ ROWS = least_off (in_set a) ROWS (λ k h. none_in a e z k) in
        (omega arith, omega arith)

-- a set with a first has a member
pub first_any : {x : Set} {i : ℕ} → First x i → any_below ROWS (in_set x) ≡ true
first_any {x} {i} f = any_in (in_set x) ROWS i f.bound f.hit

-- what `first` says of a set with a member: that there is one, and which it is
abbrev pub SaysFirst : Set → Option ℕ → Type 0
SaysFirst x r = MatchOption r (any_below ROWS (in_set x) ≡ false) (First x)

pub first_there : (x : Set) (r : Option ℕ) → SaysFirst x r → any_below ROWS (in_set x) ≡ true → IsSome r
first_there x None h e = not_both e h
first_there x (Some i) h e = refl

pub first_said : (x : Set) {i : ℕ} {r : Option ℕ} → SaysFirst x r → r ≡ Some i → First x i
first_said x h e = subst (SaysFirst x) e h

-- words that are 0 have no first
pub none_any : (a : Set) → a.lo ≡ 0 → a.hi ≡ 0 → any_below ROWS (in_set a) ≡ false
none_any a e f = ⊎_elim (λ t. let r = any_out (in_set a) ROWS t in not_both r.2 (none_in a e f r.0)) (λ e. e) (which (any_below ROWS (in_set a)))

-- ---- laws: the rest

rest_by : (x r : Set) (t : ℕ) → First x t → in_set r t ≡ false → ((j : ℕ) → (j ≡ t → ⊥) → in_set r j ≡ in_set x j) → Rest x r
rest_by x r t f gone same = record { is = λ j. go j (ℕ_discrete j (next x)) }
  where
    e : next x ≡ t
    e = first_next f

    go : (j : ℕ) → Dec (j ≡ next x) → in_set r j ≡ (in_set x j and not (eqb j (next x)))
    go j (yes q) = ap (in_set r) (q ∙ e) ∙ gone ∙ sym (and_false_right (in_set x j) (not (eqb j (next x))) (ap not (eq-eqb j (next x) q)))
    go j (no q) = same j (λ d. q (d ∙ sym e)) ∙ sym (and_on_right (in_set x j) (not (eqb j (next x))) (not_in (ne_eqb j (next x) q)))

pub rest_low : (a : Set) → 0 < a.lo → a.lo < 2 ^ 64 → Rest a (of (bit_and a.lo (a.lo - 1)) a.hi)
rest_low a p l = rest_by a r t (first_low a p l) (in_low r t s ∙ d.gone t f) (λ j n. others j n (dec_lt j 64) (dec_lt j ROWS))
  where
    r : Set
    r = of (bit_and a.lo (a.lo - 1)) a.hi

    t : ℕ
    t = count_trailing_zeros 64 a.lo

    s : t < 64
    s = lowest_small 64 a.lo p l

    f : Lowest a.lo t
    f = lowest_is 64 a.lo p l

    d : Dropped a.lo (bit_and a.lo (a.lo - 1))
    d = drop_is a.lo p

    others : (j : ℕ) → (j ≡ t → ⊥) → Dec (j < 64) → Dec (j < ROWS) → in_set r j ≡ in_set a j
    others j n (yes q) o = in_low r j q ∙ d.same t j f n ∙ sym (in_low a j q)
    others j n (no q) (yes o) =
        let e : j ≡ 64 + (j - 64) = omega arith in
        ap (in_set r) e ∙ in_high r (j - 64) (omega arith) ∙ sym (in_high a (j - 64) (omega arith)) ∙ ap (in_set a) (sym e)
    others j n (no q) (no o) = in_none r j (omega arith) ∙ sym (in_none a j (omega arith))

pub rest_high : (a : Set) → a.lo ≡ 0 → 0 < a.hi → a.hi < 2 ^ 64 → Rest a (of 0 (bit_and a.hi (a.hi - 1)))
rest_high a z p l = rest_by a r (64 + t) (first_high a z p l) (in_high r t s ∙ d.gone t f) (λ j n. others j n (dec_lt j 64) (dec_lt j ROWS))
  where
    r : Set
    r = of 0 (bit_and a.hi (a.hi - 1))

    t : ℕ
    t = count_trailing_zeros 64 a.hi

    s : t < 64
    s = lowest_small 64 a.hi p l

    f : Lowest a.hi t
    f = lowest_is 64 a.hi p l

    d : Dropped a.hi (bit_and a.hi (a.hi - 1))
    d = drop_is a.hi p

    others : (j : ℕ) → (j ≡ 64 + t → ⊥) → Dec (j < 64) → Dec (j < ROWS) → in_set r j ≡ in_set a j
    others j n (yes q) o = in_low r j q ∙ ap (λ (x : ℕ). bit_of x j) (sym z) ∙ sym (in_low a j q)
    others j n (no q) (yes o) =
        let e : j ≡ 64 + (j - 64) = omega arith in
        ap (in_set r) e ∙ in_high r (j - 64) (omega arith) ∙ d.same t (j - 64) f (λ g. n (omega arith)) ∙ sym (in_high a (j - 64) (omega arith)) ∙ ap (in_set a) (sym e)
    others j n (no q) (no o) = in_none r j (omega arith) ∙ sym (in_none a j (omega arith))

-- ---- laws: how many

pub count_is : (a : Set) → a.lo < 2 ^ 64 → a.hi < 2 ^ 64 → ones a.lo + ones a.hi ≡ count_below ROWS (in_set a)
count_is a l m =
    ap₂ (λ (x y : ℕ). x + y)
    (ones_count 64 a.lo l ∙ sym (count_cong (in_set a) (bit_of a.lo) 64 (λ k h. in_low a k h)))
    (ones_count 64 a.hi m ∙ sym (count_cong (λ j. in_set a (64 + j)) (bit_of a.hi) 64 (λ k h. in_high a k h)))
    ∙ sym (count_add 64 64 (in_set a))

pub few_ones : (x : ℕ) → x < 2 ^ 64 → ones x ≤ 64
few_ones x l = ones-le 64 x l
