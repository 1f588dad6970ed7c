-- A number that no longer passes is one fewer. Assumes nothing.
use mathlib.Core.Path.{◌≡◌, sym, subst}
use mathlib.Core.Bool.{Bool, true, false}
use Prim.Native.Nat.{ℕ, zero, suc, ◌+◌, ◌<◌}
use native.Mathlib.Omega.{arith}
use native.Mathlib.Decide.{ℕ_discrete}
use Rattle.finite.specs.Count.{one, count_below, count_cong}

pub count_less : (p q : ℕ → Bool) (n i : ℕ) → i < n → p i ≡ true → q i ≡ false → ((k : ℕ) → (k ≡ i → ⊥) → q k ≡ p k) → count_below n q < count_below n p
unfolding count_below one
count_less p q zero i l a b h = absurd (omega arith)
count_less p q (suc n) i l a b h = go (ℕ_discrete i n) (λ o. count_less p q n i o a b h)
  where
    go : Dec (i ≡ n) → (i < n → count_below n q < count_below n p) → count_below n q + one (q n) < count_below n p + one (p n)
    go (yes e) ih =
        let c : count_below n q ≡ count_below n p = count_cong q p n (λ k o. h k (λ f. absurd (omega arith))) in
        let s : p n ≡ true = subst (λ (z : ℕ). p z ≡ true) e a in
        let t : q n ≡ false = subst (λ (z : ℕ). q z ≡ false) e b in
        rw (s, t) (omega (arith, c))
    go (no e) ih =
        let c = ih (omega arith) in
        let s : q n ≡ p n = h n (λ f. e (sym f)) in
        rw s (omega (arith, c))
