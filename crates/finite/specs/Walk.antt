-- Walks of a counted number of steps, and the shortest way from a number back to itself. Assumes nothing.
use Rattle.std.specs.Prelude.{Bool, List, [], ◌∷◌, ℕ, zero, suc, eqb}
use Rattle.finite.specs.Logic.{◌and◌}
use Rattle.finite.specs.Below.{any_below, least}

-- ---- definitions

module _ (n : ℕ) (e : ℕ → ℕ → Bool) where
  -- a walk of exactly k steps leads from z to x, by way of numbers below n
  unfoldable pub walk : ℕ → ℕ → ℕ → Bool
  walk x zero z = eqb z x
  walk x (suc k) z = any_below n (λ w. e z w and walk x k w)

  -- x lies on a cycle of at most n steps
  unfoldable pub on_cycle : ℕ → Bool
  on_cycle x = any_below n (λ k. walk x (suc k) x)

  -- the lowest number on a cycle; n where none is
  unfoldable pub cycle_start : ℕ
  cycle_start = least n on_cycle

  -- the fewest steps from x back to x
  unfoldable pub cycle_size : ℕ → ℕ
  cycle_size x = suc (least n (λ k. walk x (suc k) x))

  -- the numbers passed on the way from z to x in k steps: the least next one each time
  unfoldable pub trail : ℕ → ℕ → ℕ → List ℕ
  trail x zero z = []
  trail x (suc k) z = z ∷ trail x k (least n (λ w. e z w and walk x k w))

  -- the cycle that is shown
  unfoldable pub cycle : List ℕ
  cycle = trail cycle_start (cycle_size cycle_start) cycle_start

-- f of each number of a list and the next, x after the last
unfoldable pub along : (ℕ → ℕ → ℕ) → ℕ → List ℕ → List ℕ
along f x [] = []
along f x (a ∷ []) = f a x ∷ []
along f x (a ∷ (b ∷ l)) = f a b ∷ along f x (b ∷ l)
