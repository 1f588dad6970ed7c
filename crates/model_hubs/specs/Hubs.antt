-- The transitive closure by way of hubs: where every inner number of a path that is no hub can be left out, the closure can be
-- taken over the hubs alone, which are numbered apart. For any relation, any hubs and any bounds. Assumes nothing.
use Rattle.std.specs.Prelude.{◌≡◌, refl, Bool, true, ◌⊎◌, ℕ, zero, suc, ◌≤◌, ◌<◌}
use Rattle.std.proofs.Common.{inl, inr, arith}
use Rattle.std.proofs.Math.Path.{subst}
use Rattle.finite.specs.Logic.{◌and◌, ◌or◌, bool_ext, split, and_true}
use Rattle.finite.specs.Closure.{Reach, one, more, through, through_reach}

-- ---- definitions

-- Of a relation r on numbers below bound: n numbers x that may be hubs, each of which stands at number `at x` of r; a number that a
-- path goes by can be left out, or is a hub's.
pub record Hubs (r : ℕ → ℕ → Bool) (bound : ℕ) (hub : ℕ → Bool) (at : ℕ → ℕ) (n : ℕ) : Type 0 where
  pub inside : (x : ℕ) → x < n → at x < bound
  pub skip : (i m j : ℕ) → m < bound → r i m ≡ true → r m j ≡ true
      → (r i j ≡ true) ⊎ ((x : ℕ) × (x < n) × (hub x ≡ true) × (at x ≡ m))

-- a direct step from the hub x to number `at c`, c a hub or any other number that `at` gives a place
unfoldable pub hop : (ℕ → ℕ → Bool) → (ℕ → Bool) → (ℕ → ℕ) → ℕ → ℕ → Bool
hop r hub at x c = hub x and r (at x) (at c)

-- Warshall's recursion for a relation that leads from n rows to other numbers, where row k stands at number `own k`: by way of rows
-- below k. Its columns are those other numbers, so that a row of bits need not be numbered anew
unfoldable pub through_own : (ℕ → ℕ → Bool) → (ℕ → ℕ) → ℕ → ℕ → ℕ → Bool
through_own r own zero x m = r x m
through_own r own (suc k) x m = through_own r own k x m or (through_own r own k x (own k) and through_own r own k k m)

-- ---- laws

module _ (r : ℕ → ℕ → Bool) (bound : ℕ) (hub : ℕ → Bool) (at : ℕ → ℕ) (n : ℕ) (h : Hubs r bound hub at n) where
  hop_in : (x c : ℕ) → hub x ≡ true → r (at x) (at c) ≡ true → hop r hub at x c ≡ true
  unfolding hop
  hop_in x c e f = and_true e f

  hop_out : (x c : ℕ) → hop r hub at x c ≡ true → (hub x ≡ true) × (r (at x) (at c) ≡ true)
  unfolding hop
  hop_out x c e = split e

  -- paths of hops are paths
  hops_reach : {x c : ℕ} → Reach (hop r hub at) n x c → Reach r bound (at x) (at c)
  hops_reach {x} {c} (one e) = one (hop_out x c e).1
  hops_reach {x} {c} (more {m = y} e l q) = more (hop_out x y e).1 (h.inside y l) (hops_reach q)

  hops_hub : {x c : ℕ} → Reach (hop r hub at) n x c → hub x ≡ true
  hops_hub {x} {c} (one e) = (hop_out x c e).0
  hops_hub {x} {c} (more {m = y} e l q) = (hop_out x y e).0

  -- a path from a hub, by way of m first, is one of hops
  reach_hops_to : (x m c v : ℕ) → v ≡ at c → hub x ≡ true → m < bound → r (at x) m ≡ true → Reach r bound m v → Reach (hop r hub at) n x c
  reach_hops_to x m c v z e l f (one g0) = go (h.skip (at x) m (at c) l f g)
    where
      g : r m (at c) ≡ true
      g = subst (λ (k : ℕ). r m k ≡ true) z g0

      go : (r (at x) (at c) ≡ true) ⊎ ((y : ℕ) × (y < n) × (hub y ≡ true) × (at y ≡ m)) → Reach (hop r hub at) n x c
      go (inl d) = one (hop_in x c e d)
      go (inr (y, k, u, v)) = more (hop_in x y e (rw v f)) k (one (hop_in y c u (rw v g)))
  reach_hops_to x m c v z e l f (more {m = a} g k q) =
      go (h.skip (at x) m a l f g) (λ d. reach_hops_to x a c v z e k d q) (λ y u d. reach_hops_to y a c v z u k d q)
    where
      go : (r (at x) a ≡ true) ⊎ ((y : ℕ) × (y < n) × (hub y ≡ true) × (at y ≡ m)) → (r (at x) a ≡ true → Reach (hop r hub at) n x c)
          → ((y : ℕ) → hub y ≡ true → r (at y) a ≡ true → Reach (hop r hub at) n y c) → Reach (hop r hub at) n x c
      go (inl d) s t = s d
      go (inr (y, k, u, v)) s t = more (hop_in x y e (rw v f)) k (t y u (rw v g))

  reach_hops : (x m c : ℕ) → hub x ≡ true → m < bound → r (at x) m ≡ true → Reach r bound m (at c) → Reach (hop r hub at) n x c
  reach_hops x m c = reach_hops_to x m c (at c) refl

  from_hub : (x c : ℕ) → hub x ≡ true → Reach r bound (at x) (at c) → Reach (hop r hub at) n x c
  from_hub x c e (one f) = one (hop_in x c e f)
  from_hub x c e (more {m = m} f l q) = reach_hops x m c e l f q

  -- the hub fact: from a hub, the closure of the relation is the closure of the hops
  pub through_hops : (x c : ℕ) → through (hop r hub at) n x c ≡ (hub x and through r bound (at x) (at c))
  through_hops x c =
      bool_ext _ _
      (λ e. let q = (through_reach (hop r hub at) n x c).0 e in and_true (hops_hub q) ((through_reach r bound (at x) (at c)).1 (hops_reach q)))
      (λ e. let s = split e in (through_reach (hop r hub at) n x c).1 (from_hub x c s.0 ((through_reach r bound (at x) (at c)).0 s.1)))

-- ---- laws: rows that stand at numbers of their own

-- where `at` gives row k its own number, the two recursions are one
pub through_own_lem : (r s : ℕ → ℕ → Bool) (own at : ℕ → ℕ) (n : ℕ) → ((k : ℕ) → k < n → at k ≡ own k) → ((x c : ℕ) → x < n → r x c ≡ s x (at c))
    → (k x c : ℕ) → k ≤ n → x < n → through r k x c ≡ through_own s own k x (at c)
unfolding through through_own
through_own_lem r s own at n e h zero x c l o = h x c o
through_own_lem r s own at n e h (suc k) x c l o =
    let f : (y d : ℕ) → y < n → through r k y d ≡ through_own s own k y (at d) = λ y d. through_own_lem r s own at n e h k y d (omega arith) in
    rw (f x c o, f x k o, f k c (omega arith), e k (omega arith)) refl
