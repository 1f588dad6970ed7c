-- Several of n, the same or not: rows of a table, or moments. Assumes nothing.
use Rattle.std.specs.Prelude.{ℕ, ◌<◌}

pub record TwoOf (n x y : ℕ) : Type 0 where
  pub first : x < n
  pub second : y < n

pub record ThreeOf (n x y z : ℕ) : Type 0 where
  pub first : x < n
  pub second : y < n
  pub third : z < n
