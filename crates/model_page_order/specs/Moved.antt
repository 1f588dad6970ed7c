-- What docs/RULES.md calls a table whose rows are moved, over its bytes.
use Rattle.std.specs.Prelude.{◌≡◌, List, ◌⊎◌, ℕ, ◌+◌, ◌*◌, ◌<◌, get_or}
use Rattle.model.specs.Table.{row_of, dependency_count, dependency_from, dependency_to, sources_of}
use Rattle.model.specs.Header.{ROW_BYTES, rows_at, rows_begin, row_bytes, dependency_bytes}
use Rattle.model_page_order.specs.Renumber.{Renumbering}

-- s' is s with its rows moved: row i of s is row `to i` of s'
pub record Moved (s s' : List ℕ) (π : Renumbering (rows_at s)) : Type 0 where
  -- the header and the places stay
  pub head : (k : ℕ) → k < rows_begin s → get_or s' k 0 ≡ get_or s k 0
  -- a row keeps its bytes, other than the two of its source
  pub fields : (i k : ℕ) → i < rows_at s → k < ROW_BYTES → (k < 12) ⊎ (13 < k)
      → get_or s' (rows_begin s + (π.to i * ROW_BYTES + k)) 0 ≡ get_or s (rows_begin s + (i * ROW_BYTES + k)) 0
  -- its source is renumbered; the initial value and a blank are no row's number and stay
  pub sources : (i : ℕ) → i < rows_at s → sources_of s' (π.to i) ≡ π.to (sources_of s i)
  -- so are the rows that its dependencies name, if it has any
  pub count : dependency_count (dependency_bytes s') ≡ dependency_count (dependency_bytes s)
  pub first : (k : ℕ) → k < dependency_count (dependency_bytes s) → dependency_from (dependency_bytes s') k ≡ π.to (dependency_from (dependency_bytes s) k)
  pub second : (k : ℕ) → k < dependency_count (dependency_bytes s) → dependency_to (dependency_bytes s') k ≡ π.to (dependency_to (dependency_bytes s) k)
  -- each agent's own rows keep their order
  pub order : (i j : ℕ) → i < j → j < rows_at s → (row_of (row_bytes s) i).agent ≡ (row_of (row_bytes s) j).agent → π.to i < π.to j
