-- The lowest shared byte is the least byte that both accesses cover, for all starts and sizes, 0 too. Assumes nothing.
use Rattle.std.specs.Prelude.{◌≡◌, Bool, not, ◌↔◌, ℕ, ◌+◌, ◌-◌, ◌≤◌, ◌<◌, max, min, ltb, eqb}
use Rattle.std.proofs.Math.Path.{refl, sym}
use Rattle.std.proofs.Common.{ap, ◌∙◌}
use Rattle.std.proofs.Math.Bool.{true, false}
use native.Mathlib.Omega.{arith}
use Rattle.std.proofs.Math.Decide.{dec_lt}
use borrow.Author.Tests.{lt-ltb, le-ltb, le-leb, leb-true, ltb-true}
use Rattle.finite.specs.Logic.{◌and◌, split, and_true, not_both, not_so}
use Rattle.finite.specs.Below.{least, Least, least_is, least_unique, least_low}
use Rattle.model.specs.declared.Row.{Row}
use Rattle.std.specs.declared.option.Option.{Option}
use Rattle.std.specs.declared.option.Option.TheVariants.{None, Some}
use Rattle.model.specs.Row.{inside, lowest_shared, is_shared}

-- ---- definitions

-- byte a + k is one of the n bytes from b
abbrev inside_nth : ℕ → ℕ → ℕ → ℕ → Bool
inside_nth a b n k = inside b n (a + k)

-- different rows, each of which starts before the other ends
unfoldable pub may_share : ℕ → ℕ → Row → Row → Bool
may_share x y r q = not (eqb x y) and ltb r.start (q.start + q.size) and ltb q.start (r.start + r.size)

-- c is one of the m bytes from a and one of the n bytes from b
unfoldable pub in_both : ℕ → ℕ → ℕ → ℕ → ℕ → Bool
in_both a m b n c = inside a m c and inside b n c

byte_in : Option ℕ → ℕ
byte_in (Some c) = c
byte_in None = 0

-- ---- laws: inside

pub inside_in : (a m c : ℕ) → a ≤ c → c < a + m → inside a m c ≡ true
unfolding inside
inside_in a m c l h = and_true (le-leb a c l) (lt-ltb c (a + m) h)

pub inside_out : (a m c : ℕ) → inside a m c ≡ true → (a ≤ c) × (c < a + m)
unfolding inside
inside_out a m c e = (leb-true a c (split e).0, ltb-true c (a + m) (split e).1)

-- ---- laws: the least k that is found

module _ (a m b n : ℕ) where
  lowest_is : (k : ℕ) → least m (inside_nth a b n) ≡ k → k < m → Some (a + k) ≡ lowest_shared a m b n
  unfolding lowest_shared
  lowest_is k e l = rw (e, lt-ltb k m l) refl

  lowest_none : least m (inside_nth a b n) ≡ m → None ≡ lowest_shared a m b n
  unfolding lowest_shared
  lowest_none e = rw (e, le-ltb m m (omega arith)) refl

  -- ---- laws: what it says

  -- a byte that both cover, and none lower, is given; and only such a byte
  shared_at : (c : ℕ) → in_both a m b n c ≡ true → ((d : ℕ) → d < c → in_both a m b n d ≡ false) → lowest_shared a m b n ≡ Some c
  unfolding in_both
  shared_at c e f =
      let i = inside_out a m c (split e).0 in
      let l = i.0 in
      let h = i.1 in
      let q : a + (c - a) ≡ c = omega arith in
      let hit : inside b n (a + (c - a)) ≡ true = rw q (split e).1 in
      let g : least m (inside_nth a b n) ≡ c - a = least_unique (inside_nth a b n) m (c - a) (omega arith) hit (before l h) in
      sym (rw q at (lowest_is (c - a) g (omega arith)))
    where
      before : a ≤ c → c < a + m → (j : ℕ) → j < c - a → inside b n (a + j) ≡ false
      before l h j k =
          not_so (inside b n (a + j)) (λ t. not_both (and_true (inside_in a m (a + j) (omega arith) (omega arith)) t) (f (a + j) (omega arith)))

  at_shared : (c : ℕ) → lowest_shared a m b n ≡ Some c → (in_both a m b n c ≡ true) × ((d : ℕ) → d < c → in_both a m b n d ≡ false)
  unfolding in_both byte_in is_shared
  at_shared c e = go (dec_lt (least m (inside_nth a b n)) m)
    where
      r : Least m (inside_nth a b n) (least m (inside_nth a b n))
      r = least_is (inside_nth a b n) m

      go : Dec (least m (inside_nth a b n) < m)
          → ((inside a m c and inside b n c) ≡ true) × ((d : ℕ) → d < c → (inside a m d and inside b n d) ≡ false)
      go (yes l) = rw (← q) (and_true (inside_in a m _ (omega arith) (omega arith)) (r.hit l), before)
        where
          q : a + least m (inside_nth a b n) ≡ c
          q = ap byte_in (lowest_is _ refl l ∙ e)

          before : (d : ℕ) → d < a + least m (inside_nth a b n) → (inside a m d and inside b n d) ≡ false
          before d h = not_so (inside a m d and inside b n d) (λ t. low d h (inside_out a m d (split t).0).0 (split t).1)
            where
              low : (d : ℕ) → d < a + least m (inside_nth a b n) → a ≤ d → inside b n d ≡ true → ⊥
              low d h g t =
                  let k : a + (d - a) ≡ d = omega arith in
                  let f : inside b n (a + (d - a)) ≡ true = rw k t in
                  not_both f (r.miss (d - a) (omega arith))
      go (no l) =
          let k : least m (inside_nth a b n) ≡ m = omega (arith, r.bound) in
          not_both {b = true} refl (sym (ap is_shared (lowest_none k ∙ e)))

  -- where no byte is inside both none is given; and only there
  shared_nothing : ((c : ℕ) → in_both a m b n c ≡ false) → lowest_shared a m b n ≡ None
  unfolding in_both
  shared_nothing f = go (dec_lt (least m (inside_nth a b n)) m)
    where
      r : Least m (inside_nth a b n) (least m (inside_nth a b n))
      r = least_is (inside_nth a b n) m

      go : Dec (least m (inside_nth a b n) < m) → lowest_shared a m b n ≡ None
      go (yes l) = not_both (and_true (inside_in a m _ (omega arith) (omega arith)) (r.hit l)) (f (a + least m (inside_nth a b n)))
      go (no l) = sym (lowest_none (omega (arith, r.bound)))

  nothing_shared : lowest_shared a m b n ≡ None → (c : ℕ) → in_both a m b n c ≡ false
  unfolding in_both is_shared
  nothing_shared e c = not_so (inside a m c and inside b n c) (λ t. found t)
    where
      r : Least m (inside_nth a b n) (least m (inside_nth a b n))
      r = least_is (inside_nth a b n) m

      none : least m (inside_nth a b n) < m → ⊥
      none l = not_both {b = true} refl (ap is_shared (lowest_is _ refl l ∙ e))

      found : (inside a m c and inside b n c) ≡ true → ⊥
      found t =
          let i = inside_out a m c (split t).0 in
          let l = i.0 in
          let h = i.1 in
          let k : a + (c - a) ≡ c = omega arith in
          let f : inside b n (a + (c - a)) ≡ true = rw k (split t).1 in
          none (omega (arith, least_low (inside_nth a b n) m (c - a) f))

  -- byte c is given exactly when both cover it and they share no lower byte
  pub lowest_at : (c : ℕ) → (lowest_shared a m b n ≡ Some c) ↔ ((in_both a m b n c ≡ true) × ((d : ℕ) → d < c → in_both a m b n d ≡ false))
  lowest_at c = (at_shared c, λ h. shared_at c h.0 h.1)

  -- nothing is given exactly when no byte is inside both
  pub lowest_nothing : (lowest_shared a m b n ≡ None) ↔ ((c : ℕ) → in_both a m b n c ≡ false)
  lowest_nothing = (nothing_shared, shared_nothing)

  -- ---- laws: what it is, from the starts and the ends

  -- a byte that both cover lies between
  ends_hold : (c : ℕ) → in_both a m b n c ≡ true → (max a b ≤ c) × (c < min (a + m) (b + n))
  unfolding in_both
  ends_hold c e =
      let i = inside_out a m c (split e).0 in
      let j = inside_out b n c (split e).1 in
      (omega (arith, i.0, j.0), omega (arith, i.1, j.1))

  -- the higher start, where it lies before the lower end
  pub start_shared : (s e : ℕ) → s ≡ max a b → e ≡ min (a + m) (b + n) → s < e → Some s ≡ lowest_shared a m b n
  unfolding in_both
  start_shared s e p q l =
      let h : in_both a m b n s ≡ true = and_true (inside_in a m s (omega arith) (omega arith)) (inside_in b n s (omega arith) (omega arith)) in
      sym (shared_at s h (λ d k. not_so _ (λ t. let g = (ends_hold d t).0 in omega arith)))

  -- nothing elsewhere
  pub ends_apart : (s e : ℕ) → s ≡ max a b → e ≡ min (a + m) (b + n) → e ≤ s → None ≡ lowest_shared a m b n
  ends_apart s e p q l = sym (shared_nothing (λ c. not_so _ (λ t. let g = ends_hold c t in omega (arith, g.0, g.1))))
