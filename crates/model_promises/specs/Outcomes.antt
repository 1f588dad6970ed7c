-- Which case of a fill's outcome was given, and what it carries. Assumes nothing.
use Rattle.std.proofs.Math.Path.{◌≡◌, refl, ap}
use Rattle.std.specs.Prelude.{Bool, List, [], ℕ}
use Rattle.std.proofs.Math.Bool.{true, false, cond}
use Rattle.std.proofs.Common.{arith}
use Rattle.model.specs.Fill.{Outcome, refused, race, none, filled}

-- ---- definitions: what an outcome carries

abbrev pub tag : Outcome → ℕ
tag (refused n i) = 0
tag (race x y b) = 1
tag none = 2
tag (filled l) = 3

abbrev pub first : Outcome → ℕ
first (refused n i) = n
first (race x y b) = x
first none = 0
first (filled l) = 0

abbrev pub second : Outcome → ℕ
second (refused n i) = i
second (race x y b) = y
second none = 0
second (filled l) = 0

abbrev third : Outcome → ℕ
third (refused n i) = 0
third (race x y b) = b
third none = 0
third (filled l) = 0

abbrev sources : Outcome → List ℕ
sources (refused n i) = []
sources (race x y b) = []
sources none = []
sources (filled l) = l

-- ---- an outcome by two tests: race, else filled, else none

unfoldable pub settled : Bool → Bool → ℕ → ℕ → ℕ → List ℕ → Outcome
settled a b x y k l = cond a (race x y k) (cond b (filled l) none)

module _ (a b : Bool) (x y k : ℕ) (l : List ℕ) where
  pub said_race : {u v w : ℕ} → settled a b x y k l ≡ race u v w → (a ≡ true) × (x ≡ u) × (y ≡ v) × (k ≡ w)
  unfolding settled
  said_race {u} {v} {w} p = go a b p
    where
      go : (c d : Bool) → cond c (race x y k) (cond d (filled l) none) ≡ race u v w → (c ≡ true) × (x ≡ u) × (y ≡ v) × (k ≡ w)
      go true d q = (refl, ap first q, ap second q, ap third q)
      go false true q = absurd (let z : ◌≡◌ {A = ℕ} 3 1 = ap tag q in omega arith)
      go false false q = absurd (let z : ◌≡◌ {A = ℕ} 2 1 = ap tag q in omega arith)

  pub said_filled : {m : List ℕ} → settled a b x y k l ≡ filled m → (a ≡ false) × (b ≡ true) × (l ≡ m)
  unfolding settled
  said_filled {m} p = go a b p
    where
      go : (c d : Bool) → cond c (race x y k) (cond d (filled l) none) ≡ filled m → (c ≡ false) × (d ≡ true) × (l ≡ m)
      go true d q = absurd (let z : ◌≡◌ {A = ℕ} 1 3 = ap tag q in omega arith)
      go false true q = (refl, refl, ap sources q)
      go false false q = absurd (let z : ◌≡◌ {A = ℕ} 2 3 = ap tag q in omega arith)

  pub said_none : settled a b x y k l ≡ none → (a ≡ false) × (b ≡ false)
  unfolding settled
  said_none p = go a b p
    where
      go : (c d : Bool) → cond c (race x y k) (cond d (filled l) none) ≡ none → (c ≡ false) × (d ≡ false)
      go true d q = absurd (let z : ◌≡◌ {A = ℕ} 1 2 = ap tag q in omega arith)
      go false true q = absurd (let z : ◌≡◌ {A = ℕ} 3 2 = ap tag q in omega arith)
      go false false q = (refl, refl)

  pub say_race : a ≡ true → settled a b x y k l ≡ race x y k
  unfolding settled
  say_race p = rw p refl

  pub say_filled : a ≡ false → b ≡ true → settled a b x y k l ≡ filled l
  unfolding settled
  say_filled p q = rw (p, q) refl

  pub say_none : a ≡ false → b ≡ false → settled a b x y k l ≡ none
  unfolding settled
  say_none p q = rw (p, q) refl
