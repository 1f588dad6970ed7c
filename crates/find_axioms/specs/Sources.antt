-- The sources of all rows, in a lent slice.
use Rattle.std.specs.Prelude.{List, ℕ, get_or}

abbrev pub source_in : List ℕ → ℕ → ℕ
source_in s i = get_or s i 0
