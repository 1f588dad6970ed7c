-- A walk that is followed step by step, to the least next number each time: what is left of it. Assumes nothing.
use Rattle.std.specs.Prelude.{◌≡◌, Bool, true, List, [], ◌∷◌, get_or}
use Rattle.std.proofs.Math.Path.{refl, ap}
use Rattle.std.proofs.Common.{sym, subst, ◌∙◌, arith}
use Prim.Native.Nat.{ℕ, zero, suc, ◌+◌, ◌-◌, ◌<◌}
use borrow.Author.Tests.{eqb-true}
use Rattle.finite.specs.Logic.{◌and◌, split}
use Rattle.finite.specs.Below.{least, least_hit}
use Rattle.finite.specs.Walk.{walk, trail, along}

-- the least number that e leads to from z and that has a walk of k steps to x; n where there is none
unfoldable pub next_of : ℕ → (ℕ → ℕ → Bool) → ℕ → ℕ → ℕ → ℕ
next_of n e x k z = least n (λ y. e z y and walk n e x k y)

-- the numbers of a list are the first of each pair along it
pub along_first : (x : ℕ) (l : List ℕ) → along (λ a b. a) x l ≡ l
unfolding along
along_first x [] = refl
along_first x (a ∷ []) = refl
along_first x (a ∷ (b ∷ l)) = ap (λ (m : List ℕ). a ∷ m) (along_first x (b ∷ l))

module _ (n : ℕ) (e : ℕ → ℕ → Bool) (x : ℕ) where
  -- the next number, and that the walk goes on from it
  next_hit : (k z : ℕ) → walk n e x (suc k) z ≡ true → (next_of n e x k z < n) × (walk n e x k (next_of n e x k z) ≡ true)
  unfolding walk next_of
  next_hit k z t = let hit = least_hit (λ y. e z y and walk n e x k y) n t in (hit.0, (split hit.1).1)

  next_last : (z : ℕ) → walk n e x 1 z ≡ true → next_of n e x 0 z ≡ x
  unfolding walk
  next_last z t = eqb-true _ x (next_hit 0 z t).1

  -- a trail's numbers in pairs: the first with the next, then those of the trail that is left
  along_trail : (f : ℕ → ℕ → ℕ) (k z : ℕ) → walk n e x (suc k) z ≡ true
      → along f x (trail n e x (suc k) z) ≡ f z (next_of n e x k z) ∷ along f x (trail n e x k (next_of n e x k z))
  unfolding trail along next_of
  along_trail f zero z t = ap (λ (y : ℕ). f z y ∷ []) (sym (next_last z t))
  along_trail f (suc k) z t = refl

  module _ (size z₀ : ℕ) where
    -- after i steps of the chain of `size` steps from z₀ there are k left, and the chain has come to z
    pub record Left (i k z : ℕ) : Type 0 where
      pub walks : walk n e x k z ≡ true
      pub tail : (f : ℕ → ℕ → ℕ) (j : ℕ) → get_or (along f x (trail n e x size z₀)) (i + j) 0 ≡ get_or (along f x (trail n e x k z)) j 0

    pub left_none : walk n e x size z₀ ≡ true → Left 0 (size - 0) z₀
    left_none t =
        let a : size ≡ size - 0 = omega arith in
        subst (λ (k : ℕ). Left 0 k z₀) a (record { walks = t; tail = λ f j. let b : 0 + j ≡ j = omega arith in rw b refl })

    further : (i k z : ℕ) → Left i (suc k) z
        → (next_of n e x k z < n) × ((f : ℕ → ℕ → ℕ) → get_or (along f x (trail n e x size z₀)) i 0 ≡ f z (next_of n e x k z)) × Left (i + 1) k (next_of n e x k z)
    further i k z h = (
      (next_hit k z h.walks).0,
      λ f. let b : i + 0 ≡ i = omega arith in rw b at (h.tail f 0 ∙ ap (λ (l : List ℕ). get_or l 0 0) (along_trail f k z h.walks)),
      record {
        walks = (next_hit k z h.walks).1;
        tail = λ f j. let b : i + 1 + j ≡ i + suc j = omega arith in
            rw b (h.tail f (suc j) ∙ ap (λ (l : List ℕ). get_or l (suc j) 0) (along_trail f k z h.walks));
      },
    )

    -- one step further
    pub left_more : (i z y : ℕ) → i < size → Left i (size - i) z → y ≡ next_of n e x (size - i - 1) z
        → (y < n) × ((f : ℕ → ℕ → ℕ) → get_or (along f x (trail n e x size z₀)) i 0 ≡ f z y) × Left (i + 1) (size - (i + 1)) y
    left_more i z y h p q =
        let a : size - i ≡ suc (size - i - 1) = omega arith in
        let b : size - i - 1 ≡ size - (i + 1) = omega arith in
        let r = further i (size - i - 1) z (subst (λ (k : ℕ). Left i k z) a p) in
        rw q (r.0, r.1, subst (λ (k : ℕ). Left (i + 1) k (next_of n e x (size - i - 1) z)) b r.2)
