-- The share: a 64-bit division of two counts is their exact quotient, rounded once; it is 0.0 exactly where the first is 0, and 1.0
-- exactly where the two are equal. Assumes nothing.
use Rattle.std.specs.Prelude.{◌≡◌, refl, false, ◌↔◌, ℕ, zero, suc, ◌*◌, ◌≤◌, ◌<◌, T, pos, Float}
use Rattle.std.proofs.Common.{sym, ap, subst, ◌∙◌, ⊎_elim, mul-pos, mul-one, mul_comm, mul_assoc, zero-mul, le_trans, eq-or-lt_of_le, arith, lit≤, lit<, ne_eqb}
use Rattle.std.specs.Float.{nan, inf, fin, binary64}
use Rattle.std.specs.Float.Ieee.{up, down, round, div, of_int, le, lt, eq}
use Rattle.std.specs.Float.Ieee.Fits.{down_pos}
use Rattle.std.specs.Float.Ieee.Exact.{HasValue}
use Rattle.std.specs.Float.Ieee.Back.{round_whole}
use Rattle.std.specs.Float.Ieee.Scale.{round_same}
use Rattle.std.specs.Float.Ieee.Order.{round_mono}
use Rattle.std.specs.Float.Ieee.Positive.{above, above_of_le, positive, first_pos}
use Rattle.model.specs.Report.{quotient}

-- ---- definitions

-- the most that a count can be: counts have 16 bits
abbrev pub MOST : ℕ
MOST = 65535

-- 0.0 and 1.0
abbrev pub zero_float : Float
zero_float = fin false 0 (pos 0)

abbrev pub one_float : Float
one_float = fin false 1 (pos 0)

-- ---- laws: one division, rounded once

below : (m : ℕ) → 0 < m → m ≡ 0 → ⊥
below m h e = omega arith

regroup : (n a b d : ℕ) → n * a * b * d ≡ n * (d * b * a)
regroup n a b d =
    ap (λ (z : ℕ). z * d) (mul_assoc n a b) ∙ mul_assoc n (a * b) d
    ∙ ap (λ (z : ℕ). n * z) (mul_comm (a * b) d ∙ ap (λ (z : ℕ). d * z) (mul_comm a b) ∙ sym (mul_assoc d b a))

-- dividing two floats of the values n and d rounds n / d
div_is : (x y : Float) (n d : ℕ) → 0 < d → HasValue x false n 1 → HasValue y false d 1 → div binary64 x y ≡ round binary64 false n d
unfolding div
div_is nan y n d nonzero over_is under_is = absurd over_is
div_is (inf s) y n d nonzero over_is under_is = absurd over_is
div_is (fin s m e) nan n d nonzero over_is under_is = absurd under_is
div_is (fin s m e) (inf t) n d nonzero over_is under_is = absurd under_is
div_is (fin s m e) (fin t m' e') n d nonzero over_is under_is =
    let p : m * up e ≡ n * down e = sym (mul-one _) ∙ over_is.1 in
    let q : m' * up e' ≡ d * down e' = sym (mul-one _) ∙ under_is.1 in
    let some : 0 < m' * up e' = subst (λ (z : ℕ). 0 < z) (sym q) (mul-pos nonzero (down_pos e')) in
    let apart : m' ≡ 0 → ⊥ = below m' (first_pos m' (up e') some) in
    simp (ne_eqb m' 0 apart, over_is.0, under_is.0)
    (round_same binary64 false (m * up e * down e') (m' * up e' * down e) n d (mul-pos some (down_pos e)) nonzero
    (ap (λ (z : ℕ). z * down e' * d) p ∙ regroup n (down e) (down e') d ∙ ap (λ (z : ℕ). n * (z * down e)) (sym q)))

-- both counts are floats exactly, so that the division alone rounds
pub divided : (n d : ℕ) → n ≤ MOST → d ≤ MOST → 0 < d → div binary64 (of_int binary64 (pos n)) (of_int binary64 (pos d)) ≡ quotient n d
unfolding quotient of_int
divided n d hn hd l = div_is _ _ n d l (round_whole binary64 false n (le_trans hn (lit≤ tt))) (round_whole binary64 false d (le_trans hd (lit≤ tt)))

-- ---- laws: 0.0 and 1.0

round_zero : round binary64 false 0 1 ≡ zero_float
unfolding round
round_zero = refl

round_one : round binary64 false 1 1 ≡ one_float
unfolding round
round_one = refl

none_zero : (d : ℕ) → 0 < d → quotient 0 d ≡ zero_float
unfolding quotient
none_zero d l = round_same binary64 false 0 d 0 1 l (lit< tt) (zero-mul 1 ∙ sym (zero-mul d)) ∙ round_zero

all_one : (d : ℕ) → 0 < d → quotient d d ≡ one_float
unfolding quotient
all_one d l = round_same binary64 false d d 1 1 l (lit< tt) (mul_comm d 1) ∙ round_one

-- the least share that isn't 0.0
low_positive : T (positive (round binary64 false 1 MOST))
unfolding round
low_positive = tt

-- the greatest that isn't 1.0
below_one : T (le one_float (round binary64 false 65534 MOST)) → ⊥
unfolding round le lt eq
below_one t = t

zero_none : (n d : ℕ) → d ≤ MOST → 0 < d → quotient n d ≡ zero_float → n ≡ 0
unfolding quotient
zero_none zero d h l e = refl
zero_none (suc n) d h l e =
    absurd (subst (λ (x : Float). T (above x)) e
    (above_of_le (round binary64 false 1 MOST) (round binary64 false (suc n) d) low_positive (round_mono binary64 1 MOST (suc n) d (lit< tt) l (omega arith))))

one_all : (n d : ℕ) → n ≤ d → d ≤ MOST → 0 < d → quotient n d ≡ one_float → n ≡ d
unfolding quotient
one_all n d h k l e =
    ⊎_elim (λ q. q)
    (λ m. absurd (below_one (subst (λ (x : Float). T (le x (round binary64 false 65534 MOST))) e
    (round_mono binary64 n d 65534 MOST l (lit< tt) (omega arith)))))
    (eq-or-lt_of_le h)

module _ (n d : ℕ) (fits : d ≤ MOST) (some : 0 < d) where
  pub zero_is : (quotient n d ≡ zero_float) ↔ (n ≡ 0)
  zero_is = (λ e. zero_none n d fits some e, λ e. rw e (none_zero d some))

  pub one_is : n ≤ d → (quotient n d ≡ one_float) ↔ (n ≡ d)
  one_is h = (λ e. one_all n d h fits some e, λ e. rw e (all_one d some))
