-- A row by its number, of n that there are. Assumes nothing.
use Rattle.std.specs.Prelude.{◌≡◌, Bool, true, ℕ, ◌<◌}
use Rattle.model.specs.declared.Row.{Row}

-- row x of n, of which the test holds
pub record RowThat (test : Row → Bool) (row : ℕ → Row) (n x : ℕ) : Type 0 where
  pub low : x < n
  pub is : test (row x) ≡ true
