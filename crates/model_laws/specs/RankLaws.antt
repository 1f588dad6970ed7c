-- The comparison of ranks, in both versions, and what both need of it. Assumes nothing.
use Rattle.std.specs.Prelude.{◌≡◌, refl, Bool, true, false, ◌⊎◌, ℕ, ◌+◌, ◌-◌, ◌%◌, ◌≤◌, ◌<◌, ltb}
use Rattle.std.proofs.Common.{sym, ◌∙◌, inl, inr}
use native.Mathlib.Omega.{arith}
use Rattle.std.proofs.Math.Decide.{dec_lt}
use borrow.Author.Tests.{lt-ltb, le-ltb, le-leb, ltb-true, leb-true}
use Rattle.finite.specs.Logic.{split, and_true, bool_ext}
use Rattle.model.specs.Limits.{COUNTS, RUN}
use Rattle.model.specs.Scope.{age, later}

-- ---- definitions

-- what both versions need, of the ranks that pass the test: of two different ones exactly one is later, and later is transitive
pub record Ranks (later : ℕ → ℕ → Bool) (passes : ℕ → Type 0) : Type 0 where
  pub one : (a b : ℕ) → passes a → passes b → (a ≡ b → ⊥) → ((later a b ≡ true) × (later b a ≡ false)) ⊎ ((later a b ≡ false) × (later b a ≡ true))
  pub none : (a : ℕ) → passes a → later a a ≡ false
  pub chain : (a b c : ℕ) → passes a → passes b → passes c → later a b ≡ true → later b c ≡ true → later a c ≡ true

-- ---- laws: a comparison by a key has them

module _ (later : ℕ → ℕ → Bool) (passes : ℕ → Type 0) (key : ℕ → ℕ)
    (own : (a b : ℕ) → passes a → passes b → key a ≡ key b → a ≡ b)
    (by_key : (a b : ℕ) → passes a → passes b → later a b ≡ ltb (key b) (key a)) where
  pub ranks_by_key : Ranks later passes
  ranks_by_key =
      record {
        one = λ a b p q n. go a b p q n (dec_lt (key b) (key a)) (dec_lt (key a) (key b));
        none = λ a p. by_key a a p p ∙ le-ltb (key a) (key a) (omega arith);
        chain = λ a b c p q r x y. over a b c p q r (ltb-true (key b) (key a) (sym (by_key a b p q) ∙ x)) (ltb-true (key c) (key b) (sym (by_key b c q r) ∙ y));
      }
    where
      go : (a b : ℕ) → passes a → passes b → (a ≡ b → ⊥) → Dec (key b < key a) → Dec (key a < key b)
          → ((later a b ≡ true) × (later b a ≡ false)) ⊎ ((later a b ≡ false) × (later b a ≡ true))
      go a b passes_a passes_b apart (yes l) d =
          inl (by_key a b passes_a passes_b ∙ lt-ltb (key b) (key a) l, by_key b a passes_b passes_a ∙ le-ltb (key a) (key b) (omega arith))
      go a b passes_a passes_b apart (no l) (yes m) =
          inr (by_key a b passes_a passes_b ∙ le-ltb (key b) (key a) (omega arith), by_key b a passes_b passes_a ∙ lt-ltb (key a) (key b) m)
      go a b passes_a passes_b apart (no l) (no m) = absurd (apart (own a b passes_a passes_b (omega arith)))

      over : (a b c : ℕ) → passes a → passes b → passes c → key b < key a → key c < key b → later a c ≡ true
      over a b c passes_a passes_b passes_c b_below_a c_below_b = by_key a c passes_a passes_c ∙ lt-ltb (key c) (key a) (omega arith)

-- ---- laws: both versions compare by a key

-- the rank is a count that lies in the run from c
abbrev pub InRun : ℕ → ℕ → Type 0
InRun c a = (a < COUNTS) × (age a c < RUN)

-- as numbers, a rank is its own key
pub ranks_plain : (passes : ℕ → Type 0) → Ranks (later false) passes
unfolding later
ranks_plain passes = ranks_by_key (later false) passes (λ a. a) (λ a b p q e. e) (λ a b p q. refl)

-- in a run, the key is how far into the run it lies
module _ (c : ℕ) (count : c < COUNTS) where
  key_own : (a b : ℕ) → InRun c a → InRun c b → age a c ≡ age b c → a ≡ b
  unfolding age
  key_own a b p q e =
      let pa : a < COUNTS = p.0 in
      let qb : b < COUNTS = q.0 in
      omega arith

  ahead : (a b : ℕ) → InRun c a → InRun c b → age b c < age a c → (1 ≤ age a b) × (age a b < RUN)
  unfolding age
  ahead a b p q l =
      let pa : a < COUNTS = p.0 in
      let qb : b < COUNTS = q.0 in
      let pw : (a + COUNTS - c) % COUNTS < RUN = p.1 in
      let qw : (b + COUNTS - c) % COUNTS < RUN = q.1 in
      (omega arith, omega arith)

  behind : (a b : ℕ) → InRun c a → InRun c b → 1 ≤ age a b → age a b < RUN → age b c < age a c
  unfolding age
  behind a b p q l m =
      let pa : a < COUNTS = p.0 in
      let qb : b < COUNTS = q.0 in
      let pw : (a + COUNTS - c) % COUNTS < RUN = p.1 in
      let qw : (b + COUNTS - c) % COUNTS < RUN = q.1 in
      omega arith

  later_key : (a b : ℕ) → InRun c a → InRun c b → later true a b ≡ ltb (age b c) (age a c)
  unfolding later
  later_key a b p q =
      bool_ext _ _
      (λ h. let x = split h in lt-ltb (age b c) (age a c) (behind a b p q (leb-true 1 (age a b) x.0) (ltb-true (age a b) RUN x.1)))
      (λ h. let x = ahead a b p q (ltb-true (age b c) (age a c) h) in and_true (le-leb 1 (age a b) x.0) (lt-ltb (age a b) RUN x.1))

  pub ranks_counted : Ranks (later true) (InRun c)
  ranks_counted = ranks_by_key (later true) (InRun c) (λ a. age a c) key_own later_key
