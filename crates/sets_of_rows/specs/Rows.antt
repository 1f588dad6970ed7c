-- A set that has the rows of a table that pass a test, and nothing else; and sets made of such sets. Assumes nothing.
use Rattle.std.specs.Prelude.{◌≡◌, refl, Bool, true, false, not, ℕ, ◌<◌, ltb}
use Rattle.std.proofs.Common.{sym, ap, ap₂, ◌∙◌, arith, lt-ltb, le-ltb}
use Rattle.std.proofs.Math.Decide.{dec_lt}
use Rattle.finite.specs.Logic.{◌and◌, ◌or◌, and_or, and_on, and_false_left, and_false_right}
use Rattle.sets_of_rows.specs.declared.Set.{Set}
use Rattle.sets_of_rows.specs.Member.{in_set}

-- ---- definitions

-- x has the rows of n that pass p
pub record Rows (n : ℕ) (p : ℕ → Bool) (x : Set) : Type 0 where
  pub is : (j : ℕ) → in_set x j ≡ (ltb j n and p j)

-- ---- laws: one set

-- what a set has, a walk over it begins with
pub started : {f : ℕ → Bool} {x y : Set} → y ≡ x → ((j : ℕ) → in_set x j ≡ f j) → (j : ℕ) → in_set y j ≡ f j
started e h j = ap (λ (z : Set). in_set z j) e ∙ h j

pub rows_at : {n : ℕ} {p : ℕ → Bool} {x y : Set} → x ≡ y → Rows n p y → Rows n p x
rows_at e h = record { is = λ j. ap (λ (z : Set). in_set z j) e ∙ h.is j }

pub rows_in_lem : {n : ℕ} {p : ℕ → Bool} {x : Set} → Rows n p x → (j : ℕ) → j < n → in_set x j ≡ p j
rows_in_lem {n} {p} h j l = h.is j ∙ and_on (ltb j n) (p j) (lt-ltb j n l)

under_and : (j n : ℕ) (b c : Bool) → (j < n → b ≡ c) → (ltb j n and b) ≡ (ltb j n and c)
under_and j n b c h = go (dec_lt j n)
  where
    go : Dec (j < n) → (ltb j n and b) ≡ (ltb j n and c)
    go (yes l) = ap (λ (z : Bool). ltb j n and z) (h l)
    go (no l) = and_false_left (ltb j n) b (le-ltb j n (omega arith)) ∙ sym (and_false_left (ltb j n) c (le-ltb j n (omega arith)))

pub rows_cong : {n : ℕ} {p q : ℕ → Bool} {x : Set} → ((j : ℕ) → j < n → p j ≡ q j) → Rows n p x → Rows n q x
rows_cong {n} {p} {q} e h = record { is = λ j. h.is j ∙ under_and j n (p j) (q j) (e j) }

-- ---- laws: sets of sets

both : (l a b : Bool) → ((l and a) and (l and b)) ≡ (l and (a and b))
unfolding ◌and◌
both true a b = refl
both false a b = refl

but : (l a b : Bool) → ((l and a) and not (l and b)) ≡ (l and (a and not b))
unfolding ◌and◌
but true a b = refl
but false a b = refl

reach : (l a b : Bool) → ((l and a) and b) ≡ (l and (a and b))
unfolding ◌and◌
reach true a b = refl
reach false a b = refl

swap : (l a b : Bool) → (a and (l and b)) ≡ (l and (a and b))
unfolding ◌and◌
swap true a b = refl
swap false true b = refl
swap false false b = refl

module _ {n : ℕ} {p q : ℕ → Bool} {x y z : Set} (a : Rows n p x) (b : Rows n q y) where
  pub rows_and : ((j : ℕ) → in_set z j ≡ (in_set x j and in_set y j)) → Rows n (λ j. p j and q j) z
  rows_and e = record { is = λ j. e j ∙ ap₂ ◌and◌ (a.is j) (b.is j) ∙ both (ltb j n) (p j) (q j) }

  pub rows_or : ((j : ℕ) → in_set z j ≡ (in_set x j or in_set y j)) → Rows n (λ j. p j or q j) z
  rows_or e = record { is = λ j. e j ∙ ap₂ ◌or◌ (a.is j) (b.is j) ∙ and_or (ltb j n) (p j) (q j) }

  pub rows_less : ((j : ℕ) → in_set z j ≡ (in_set x j and not (in_set y j))) → Rows n (λ j. p j and not (q j)) z
  rows_less e = record { is = λ j. e j ∙ ap₂ (λ (s t : Bool). s and not t) (a.is j) (b.is j) ∙ but (ltb j n) (p j) (q j) }

-- a set cut by any test
pub rows_cut : {n : ℕ} {p : ℕ → Bool} {x z : Set} (q : ℕ → Bool) → Rows n p x → ((j : ℕ) → in_set z j ≡ (in_set x j and q j)) → Rows n (λ j. p j and q j) z
rows_cut {n} {p} q a e = record { is = λ j. e j ∙ ap (λ (b : Bool). b and q j) (a.is j) ∙ reach (ltb j n) (p j) (q j) }

pub rows_if : {n : ℕ} {p : ℕ → Bool} {x z : Set} (b : Bool) → Rows n p x → ((j : ℕ) → in_set z j ≡ (b and in_set x j)) → Rows n (λ j. b and p j) z
rows_if {n} {p} b a e = record { is = λ j. e j ∙ ap (λ (c : Bool). b and c) (a.is j) ∙ swap (ltb j n) b (p j) }

pub rows_none : {n : ℕ} {x : Set} → ((j : ℕ) → in_set x j ≡ false) → Rows n (λ j. false) x
rows_none {n} e = record { is = λ j. e j ∙ sym (and_false_right (ltb j n) false refl) }
