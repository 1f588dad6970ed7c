-- The transitive closure of a relation: as a set of paths, and as Warshall's recursion, which are one for any relation and any
-- bound. Assumes nothing.
use Rattle.std.specs.Prelude.{◌≡◌, refl, ◌↔◌, ◌⊎◌, Bool, false}
use Rattle.std.proofs.Common.{sym, ◌∙◌, inl, inr, arith}
use Rattle.std.proofs.Math.Bool.{true}
use Prim.Native.Nat.{ℕ, zero, suc, ◌≤◌, ◌<◌}
use Rattle.std.proofs.Math.Decide.{ℕ_discrete}
use Rattle.finite.specs.Logic.{◌and◌, ◌or◌, split, and_true, or_cases, or_left, or_right}

-- ---- definitions

-- j is reached from i by one or more steps of r, by way of numbers below n alone
pub data Reach (r : ℕ → ℕ → Bool) (n : ℕ) : ℕ → ℕ → Type 0 where
  one : {i j : ℕ} → r i j ≡ true → Reach r n i j
  more : {i m j : ℕ} → r i m ≡ true → m < n → Reach r n m j → Reach r n i j

-- the same as Warshall's algorithm has it, by way of numbers below k
unfoldable pub through : (ℕ → ℕ → Bool) → ℕ → ℕ → ℕ → Bool
through r zero i j = r i j
through r (suc k) i j = through r k i j or (through r k i k and through r k k j)

-- ---- laws

module _ (r : ℕ → ℕ → Bool) where
  -- ---- what is found is reached

  pub reach_trans : (n i m j : ℕ) → m < n → Reach r n i m → Reach r n m j → Reach r n i j
  reach_trans n i m j h (one e) q = more e h q
  reach_trans n i m j h (more {m = a} e l p) q = more e l (reach_trans n a m j h p q)

  sound : (n k i j : ℕ) → k ≤ n → through r k i j ≡ true → Reach r n i j
  unfolding through
  sound n zero i j h e = one e
  sound n (suc k) i j h e = go (or_cases (through r k i j) _ e) (sound n k i j (omega arith)) (sound n k i k (omega arith)) (sound n k k j (omega arith))
    where
      go : (through r k i j ≡ true) ⊎ ((through r k i k and through r k k j) ≡ true)
          → (through r k i j ≡ true → Reach r n i j) → (through r k i k ≡ true → Reach r n i k) → (through r k k j ≡ true → Reach r n k j) → Reach r n i j
      go (inl d) f g g' = f d
      go (inr d) f g g' = let b = split d in reach_trans n i k j h (g b.0) (g' b.1)

  -- ---- what is reached is found

  pub wider : (k i j : ℕ) → through r k i j ≡ true → through r (suc k) i j ≡ true
  unfolding through
  wider k i j e = or_left _ e

  pub direct : (k i j : ℕ) → r i j ≡ true → through r k i j ≡ true
  unfolding through
  direct zero i j e = e
  direct (suc k) i j e = or_left _ (direct k i j e)

  -- by way of k itself, k adds nothing
  to_last : (k i : ℕ) → through r (suc k) i k ≡ true → through r k i k ≡ true
  unfolding through
  to_last k i e = go (or_cases (through r k i k) _ e)
    where
      go : (through r k i k ≡ true) ⊎ ((through r k i k and through r k k k) ≡ true) → through r k i k ≡ true
      go (inl d) = d
      go (inr d) = (split d).0

  from_last : (k j : ℕ) → through r (suc k) k j ≡ true → through r k k j ≡ true
  unfolding through
  from_last k j e = go (or_cases (through r k k j) _ e)
    where
      go : (through r k k j ≡ true) ⊎ ((through r k k k and through r k k j) ≡ true) → through r k k j ≡ true
      go (inl d) = d
      go (inr d) = (split d).1

  by_last : (k i j : ℕ) → through r k i k ≡ true → through r k k j ≡ true → through r (suc k) i j ≡ true
  unfolding through
  by_last k i j p q = or_right (through r k i j) (and_true p q)

  -- two ways meet at a number below k
  meet : (k i m j : ℕ) → m < k → through r k i m ≡ true → through r k m j ≡ true → through r k i j ≡ true
  unfolding through
  meet zero i m j h p q = absurd (omega arith)
  meet (suc k) i m j h p q = last (λ a b l. meet k a m b l) (ℕ_discrete m k)
    where
      T : ℕ → ℕ → Type 0
      T a b = through r k a b ≡ true

      IH : Type 0
      IH = (a b : ℕ) → m < k → T a m → T m b → T a b

      cases : IH → m < k → (T i m) ⊎ ((through r k i k and through r k k m) ≡ true) → (T m j) ⊎ ((through r k m k and through r k k j) ≡ true)
          → through r (suc k) i j ≡ true
      cases ih l (inl a) (inl b) = wider k i j (ih i j l a b)
      cases ih l (inl a) (inr b) = let c = split b in by_last k i j (ih i k l a c.0) c.1
      cases ih l (inr a) (inl b) = let c = split a in by_last k i j c.0 (ih k j l c.1 b)
      cases ih l (inr a) (inr b) = by_last k i j (split a).0 (split b).1

      last : IH → Dec (m ≡ k) → through r (suc k) i j ≡ true
      last ih (yes e) = by_last k i j (to_last k i (rw e at p)) (from_last k j (rw e at q))
      last ih (no e) = cases ih (omega arith) (or_cases (through r k i m) _ p) (or_cases (through r k m j) _ q)

  complete : (n : ℕ) {i j : ℕ} → Reach r n i j → through r n i j ≡ true
  complete n {i} {j} (one e) = direct n i j e
  complete n {i} {j} (more {m = m} e l q) = meet n i m j l (direct n i m e) (complete n q)

  -- the closure fact: Warshall's recursion is the transitive closure, for any relation and any bound
  pub through_reach : (n i j : ℕ) → (through r n i j ≡ true) ↔ Reach r n i j
  through_reach n i j = (sound n n i j (omega arith), complete n)

-- ---- relations that agree below the bound

pub through_cong : (r s : ℕ → ℕ → Bool) (n : ℕ) → ((i j : ℕ) → i < n → j < n → r i j ≡ s i j) → (k i j : ℕ) → k ≤ n → i < n → j < n
    → through r k i j ≡ through s k i j
unfolding through
through_cong r s n h zero i j l p q = h i j p q
through_cong r s n h (suc k) i j l p q =
    let f : (x y : ℕ) → x < n → y < n → through r k x y ≡ through s k x y = λ x y. through_cong r s n h k x y (omega arith) in
    rw (f i j p q, f i k p (omega arith), f k j (omega arith) q) refl

-- no steps, no paths
pub through_none : (r : ℕ → ℕ → Bool) (n : ℕ) → ((i j : ℕ) → i < n → j < n → r i j ≡ false) → (k i j : ℕ) → k ≤ n → i < n → j < n → through r k i j ≡ false
unfolding through ◌or◌ ◌and◌
through_none r n h zero i j l p q = h i j p q
through_none r n h (suc k) i j l p q =
    let f : (x y : ℕ) → x < n → y < n → through r k x y ≡ false = λ x y. through_none r n h k x y (omega arith) in
    rw (f i j p q, f i k p (omega arith)) refl

pub reach_cong : (r s : ℕ → ℕ → Bool) (n : ℕ) → ((i j : ℕ) → i < n → j < n → r i j ≡ s i j) → {i j : ℕ} → i < n → j < n → Reach r n i j → Reach s n i j
reach_cong r s n h {i} {j} p q (one e) = one (sym (h i j p q) ∙ e)
reach_cong r s n h {i} {j} p q (more {m = m} e l t) = more (sym (h i m p l) ∙ e) l (reach_cong r s n h l q t)
