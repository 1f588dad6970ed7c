-- The union of the sets of the rows in a set, taken row by row: a loop that takes the first row out. Assumes nothing.
use Rattle.std.specs.Prelude.{Bool, ℕ}
use Rattle.finite.specs.Logic.{◌and◌}
use Rattle.finite.specs.Below.{any_below}

-- ---- definitions

unfoldable pub union_by : (ℕ → Bool) → (ℕ → ℕ → Bool) → ℕ → ℕ → Bool
union_by rows set i a = rows a and set a i

-- the union of set a over the rows a
unfoldable pub union : ℕ → (ℕ → Bool) → (ℕ → ℕ → Bool) → ℕ → Bool
union n rows set i = any_below n (union_by rows set i)
