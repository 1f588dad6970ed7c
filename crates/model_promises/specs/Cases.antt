-- Which case of a verdict was given, and what it carries. Assumes nothing.
use Rattle.std.proofs.Math.Path.{◌≡◌, refl, ap}
use Rattle.std.specs.Prelude.{Bool, cond, List, [], ℕ}
use Rattle.std.proofs.Math.Bool.{true, false}
use Rattle.std.proofs.Common.{arith}
use Rattle.model.specs.Check.{Verdict, refused, cyclic, overwritten, race, race_free}

-- ---- definitions: what a verdict carries

abbrev pub tag : Verdict → ℕ
tag (refused n i) = 0
tag (cyclic rows edges) = 1
tag (overwritten y z b) = 2
tag (race x y b) = 3
tag race_free = 4

abbrev pub first : Verdict → ℕ
first (refused n i) = n
first (cyclic rows edges) = 0
first (overwritten y z b) = y
first (race x y b) = x
first race_free = 0

abbrev pub second : Verdict → ℕ
second (refused n i) = i
second (cyclic rows edges) = 0
second (overwritten y z b) = z
second (race x y b) = y
second race_free = 0

abbrev third : Verdict → ℕ
third (refused n i) = 0
third (cyclic rows edges) = 0
third (overwritten y z b) = b
third (race x y b) = b
third race_free = 0

abbrev rows_of : Verdict → List ℕ
rows_of (refused n i) = []
rows_of (cyclic rows edges) = rows
rows_of (overwritten y z b) = []
rows_of (race x y b) = []
rows_of race_free = []

abbrev edges_of : Verdict → List ℕ
edges_of (refused n i) = []
edges_of (cyclic rows edges) = edges
edges_of (overwritten y z b) = []
edges_of (race x y b) = []
edges_of race_free = []

-- ---- a verdict by three tests: cyclic, else overwritten, else race, else race-free

pub record Tests : Type 0 where
  pub is_cyclic : Bool
  pub is_over : Bool
  pub is_race : Bool
  pub rows : List ℕ
  pub edges : List ℕ
  pub reader : ℕ
  pub writer : ℕ
  pub over_at : ℕ
  pub lower : ℕ
  pub higher : ℕ
  pub race_at : ℕ

abbrev by_tests : Bool → Bool → Bool → Tests → Verdict
by_tests a b c t =
    cond a (cyclic t.rows t.edges) (cond b (overwritten t.reader t.writer t.over_at) (cond c (race t.lower t.higher t.race_at) race_free))

unfoldable pub decided : Tests → Verdict
decided t = by_tests t.is_cyclic t.is_over t.is_race t

module _ (t : Tests) where
  -- ---- what was said, and so what was found

  pub said_cyclic : {r e : List ℕ} → decided t ≡ cyclic r e → (t.is_cyclic ≡ true) × (t.rows ≡ r) × (t.edges ≡ e)
  unfolding decided
  said_cyclic {r} {e} p = go t.is_cyclic t.is_over t.is_race p
    where
      go : (a b c : Bool) → by_tests a b c t ≡ cyclic r e → (a ≡ true) × (t.rows ≡ r) × (t.edges ≡ e)
      go true b c q = (refl, ap rows_of q, ap edges_of q)
      go false true c q = absurd (let z : ◌≡◌ {A = ℕ} 2 1 = ap tag q in omega arith)
      go false false true q = absurd (let z : ◌≡◌ {A = ℕ} 3 1 = ap tag q in omega arith)
      go false false false q = absurd (let z : ◌≡◌ {A = ℕ} 4 1 = ap tag q in omega arith)

  pub said_overwritten : {i j h : ℕ} → decided t ≡ overwritten i j h
      → (t.is_cyclic ≡ false) × (t.is_over ≡ true) × (t.reader ≡ i) × (t.writer ≡ j) × (t.over_at ≡ h)
  unfolding decided
  said_overwritten {i} {j} {h} p = go t.is_cyclic t.is_over t.is_race p
    where
      go : (a b c : Bool) → by_tests a b c t ≡ overwritten i j h → (a ≡ false) × (b ≡ true) × (t.reader ≡ i) × (t.writer ≡ j) × (t.over_at ≡ h)
      go true b c q = absurd (let z : ◌≡◌ {A = ℕ} 1 2 = ap tag q in omega arith)
      go false true c q = (refl, refl, ap first q, ap second q, ap third q)
      go false false true q = absurd (let z : ◌≡◌ {A = ℕ} 3 2 = ap tag q in omega arith)
      go false false false q = absurd (let z : ◌≡◌ {A = ℕ} 4 2 = ap tag q in omega arith)

  pub said_race : {i j h : ℕ} → decided t ≡ race i j h
      → (t.is_cyclic ≡ false) × (t.is_over ≡ false) × (t.is_race ≡ true) × (t.lower ≡ i) × (t.higher ≡ j) × (t.race_at ≡ h)
  unfolding decided
  said_race {i} {j} {h} p = go t.is_cyclic t.is_over t.is_race p
    where
      go : (a b c : Bool) → by_tests a b c t ≡ race i j h → (a ≡ false) × (b ≡ false) × (c ≡ true) × (t.lower ≡ i) × (t.higher ≡ j) × (t.race_at ≡ h)
      go true b c q = absurd (let z : ◌≡◌ {A = ℕ} 1 3 = ap tag q in omega arith)
      go false true c q = absurd (let z : ◌≡◌ {A = ℕ} 2 3 = ap tag q in omega arith)
      go false false true q = (refl, refl, refl, ap first q, ap second q, ap third q)
      go false false false q = absurd (let z : ◌≡◌ {A = ℕ} 4 3 = ap tag q in omega arith)

  pub said_free : decided t ≡ race_free → (t.is_cyclic ≡ false) × (t.is_over ≡ false) × (t.is_race ≡ false)
  unfolding decided
  said_free p = go t.is_cyclic t.is_over t.is_race p
    where
      go : (a b c : Bool) → by_tests a b c t ≡ race_free → (a ≡ false) × (b ≡ false) × (c ≡ false)
      go true b c q = absurd (let z : ◌≡◌ {A = ℕ} 1 4 = ap tag q in omega arith)
      go false true c q = absurd (let z : ◌≡◌ {A = ℕ} 2 4 = ap tag q in omega arith)
      go false false true q = absurd (let z : ◌≡◌ {A = ℕ} 3 4 = ap tag q in omega arith)
      go false false false q = (refl, refl, refl)

  -- ---- what was found, and so what is said

  pub say_cyclic : t.is_cyclic ≡ true → decided t ≡ cyclic t.rows t.edges
  unfolding decided
  say_cyclic p = rw p refl

  pub say_overwritten : t.is_cyclic ≡ false → t.is_over ≡ true → decided t ≡ overwritten t.reader t.writer t.over_at
  unfolding decided
  say_overwritten p q = rw (p, q) refl

  pub say_race : t.is_cyclic ≡ false → t.is_over ≡ false → t.is_race ≡ true → decided t ≡ race t.lower t.higher t.race_at
  unfolding decided
  say_race p q r = rw (p, q, r) refl

  pub say_free : t.is_cyclic ≡ false → t.is_over ≡ false → t.is_race ≡ false → decided t ≡ race_free
  unfolding decided
  say_free p q r = rw (p, q, r) refl
