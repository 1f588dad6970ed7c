-- Whether ranks fit in some run of consecutive counts, and a test for it that asks members alone. Assumes nothing.
use Rattle.std.specs.Prelude.{◌≡◌, Bool, ◌⊎◌, ℕ, ◌≤◌, ◌<◌, ltb, eqb}
use Rattle.std.proofs.Math.Path.{refl}
use Rattle.std.proofs.Math.Bool.{true, false, not}
use Rattle.std.proofs.Common.{inl, inr}
use Rattle.std.proofs.Math.Logic.{⊎_elim}
use native.Mathlib.Omega.{arith}
use borrow.Author.Tests.{lt-ltb, ltb-true, eq-eqb, eqb-true}
use Rattle.finite.specs.Logic.{◌and◌, split, and_true, which, not_in, not_out, not_both}
use Rattle.finite.specs.Below.{any_below, any_in, any_out, any_off, any_not, least, least_low, least_hit}
use Rattle.model.specs.Limits.{COUNTS, RUN}
use Rattle.model.specs.Scope.{age}

module _ (member : ℕ → Bool) (rank : ℕ → ℕ) (n : ℕ) where
  -- ---- definitions

  -- the members below n fit in some run of consecutive counts
  abbrev pub Fits : Type 0
  Fits = (c : ℕ) × (c < COUNTS) × ((j : ℕ) → j < n → member j ≡ true → age (rank j) c < RUN)

  -- j is a member, and no count of the run that begins with m's
  unfoldable pub outside_run : ℕ → ℕ → Bool
  outside_run m j = member j and not (ltb (age (rank j) (rank m)) RUN)

  -- m is a member, and the run that begins with it has them all
  unfoldable pub begins_run : ℕ → Bool
  begins_run m = member m and not (any_below n (outside_run m))

  unfoldable pub fits : Bool
  fits = any_below n begins_run

  -- ---- laws

  module _ (small : (j : ℕ) → j < n → member j ≡ true → rank j < COUNTS) where
    in_run : (m j : ℕ) → any_below n (outside_run m) ≡ false → j < n → member j ≡ true → age (rank j) (rank m) < RUN
    unfolding outside_run
    in_run m j e l h =
        ⊎_elim (λ t. ltb-true _ _ t) (λ f. not_both (and_true h (not_in f)) (any_off (outside_run m) n e j l)) (which (ltb (age (rank j) (rank m)) RUN))

    pub fits_out : fits ≡ true → Fits
    unfolding fits begins_run
    fits_out e =
        let r = any_out begins_run n e in
        let s = split r.2 in
        (rank r.0, small r.0 r.1 s.0, λ j l h. in_run r.0 j (not_out _ s.1) l h)

    -- some member's age from c is k
    unfoldable aged : ℕ → ℕ → ℕ → Bool
    aged c k j = member j and eqb (age (rank j) c) k

    unfoldable some : ℕ → ℕ → Bool
    some c k = any_below n (aged c k)

    module _ (x : ℕ) (xl : x < n) (xm : member x ≡ true) (f : Fits) where
      abbrev c : ℕ
      c = f.0

      abbrev low : ℕ
      low = least RUN (some c)

      hit : (low < RUN) × (some c low ≡ true)
      unfolding some aged
      hit =
          let w : age (rank x) c < RUN = f.2 x xl xm in
          least_hit (some c) RUN (any_in (some c) RUN (age (rank x) c) w
          (any_in (aged c (age (rank x) c)) n x xl (and_true xm (eq-eqb (age (rank x) c) (age (rank x) c) refl))))

      first : (m : ℕ) × (m < n) × (aged c low m ≡ true)
      unfolding some
      first = any_out (aged c low) n hit.1

      near : (j : ℕ) → j < n → member j ≡ true → low ≤ age (rank j) c
      unfolding some aged
      near j l h = least_low (some c) RUN (age (rank j) c) (any_in (aged c (age (rank j) c)) n j l (and_true h (eq-eqb (age (rank j) c) (age (rank j) c) refl)))

      -- from the member that lies first in the run, each other lies no further
      closer : (a b : ℕ) → a < COUNTS → b < COUNTS → c < COUNTS → age a c < RUN → age b c ≤ age a c → age a b < RUN
      unfolding age
      closer a b small_a small_b small_c in_run nearer = omega arith

      pub fits_in : fits ≡ true
      unfolding fits begins_run outside_run aged ◌and◌
      fits_in =
          let m = first.0 in
          let l = first.1 in
          let s = split first.2 in
          let e : age (rank m) c ≡ low = eqb-true _ _ s.1 in
          any_in begins_run n m l (and_true s.0 (not_in (any_not (outside_run m) n (λ j k. none m l s.0 e j k))))
        where
          none : (m : ℕ) → m < n → member m ≡ true → age (rank m) c ≡ low → (j : ℕ) → j < n → (member j and not (ltb (age (rank j) (rank m)) RUN)) ≡ false
          none m l h e j k = go (which (member j))
            where
              go : (member j ≡ true) ⊎ (member j ≡ false) → (member j and not (ltb (age (rank j) (rank m)) RUN)) ≡ false
              go (inr o) = rw o refl
              go (inl i) =
                  let g : age (rank m) c ≤ age (rank j) c = omega (arith, e, near j k i) in
                  let w : age (rank j) (rank m) < RUN = closer (rank j) (rank m) (small j k i) (small m l h) f.1 (f.2 j k i) g in
                  rw (i, lt-ltb _ _ w) refl
