-- The four edges, and the axioms A and B. The sources of all rows are a parameter: a check reads the table's, a fill those that
-- it chose.
use Rattle.std.specs.Prelude.{Bool, not, cond, List, ℕ, ltb, eqb}
use Rattle.finite.specs.Logic.{◌and◌}
use Rattle.finite.specs.Below.{any_below, least}
use Rattle.finite.specs.Walk.{cycle_start, cycle, along}
use Rattle.model.specs.Limits.{LONGEST, INITIAL}
use Rattle.model.specs.Row.{reads, writes, overlap}
use Rattle.model.specs.Table.{Table}
use Rattle.model.specs.Scope.{follows}
use Rattle.model.specs.Location.{before}
use Rattle.model.specs.Race.{nth}

unfoldable pub before_nth : Table → ℕ → ℕ → ℕ → Bool
before_nth t x y k = before t x y (nth t x k)

-- x is location-ordered before y at some byte
unfoldable pub before_some : Table → ℕ → ℕ → Bool
before_some t x y = any_below LONGEST (before_nth t x y)

module _ (t : Table) (source : ℕ → ℕ) where
  -- ---- edges

  -- edge 3: x is the source of the reader y
  unfoldable pub reads_from : ℕ → ℕ → Bool
  reads_from x y = reads (t.row y) and eqb (source y) x

  -- edge 4: from the reader y to another row that follows y's source, or to any other writer over its bytes if it read the initial value
  unfoldable pub from_reads : ℕ → ℕ → Bool
  from_reads y z =
      not (eqb y z) and reads (t.row y)
      and cond (eqb (source y) INITIAL) (writes (t.row z) and overlap (t.row y) (t.row z)) (follows t (source y) z)

  -- the lowest number of an edge from x to y; 0 where there is none
  unfoldable pub edge_number : ℕ → ℕ → ℕ
  edge_number x y = cond (before_some t x y) 1 (cond (follows t x y) 2 (cond (reads_from x y) 3 (cond (from_reads x y) 4 0)))

  unfoldable pub edge : ℕ → ℕ → Bool
  edge x y = not (eqb (edge_number x y) 0)

  -- ---- axiom A

  -- the lowest row on a cycle; the number of rows where A holds
  unfoldable pub cycle_row : ℕ
  cycle_row = cycle_start t.rows edge

  -- the cycle that is shown: its rows, and each step's lowest edge number
  unfoldable pub cycle_rows : List ℕ
  cycle_rows = cycle t.rows edge

  unfoldable pub cycle_edges : List ℕ
  cycle_edges = along edge_number cycle_row cycle_rows

  -- ---- axiom B

  -- the writer z overwrites the source of the reader y before y, at b
  unfoldable pub overwrites : ℕ → ℕ → ℕ → Bool
  overwrites y z b =
      reads (t.row y) and writes (t.row z) and ltb (source y) t.rows and before t (source y) z b and before t z y b

  unfoldable pub overwrites_nth : ℕ → ℕ → ℕ → Bool
  overwrites_nth y z k = overwrites y z (nth t y k)

  -- the least reader, writer and byte; the number of rows where B holds
  unfoldable pub over_nth : ℕ → ℕ → ℕ
  over_nth y z = least LONGEST (overwrites_nth y z)

  unfoldable pub overwriting : ℕ → ℕ → Bool
  overwriting y z = ltb (over_nth y z) LONGEST

  unfoldable pub over_writer : ℕ → ℕ
  over_writer y = least t.rows (overwriting y)

  unfoldable pub is_overwritten : ℕ → Bool
  is_overwritten y = ltb (over_writer y) t.rows

  unfoldable pub over_reader : ℕ
  over_reader = least t.rows is_overwritten

  unfoldable pub over_byte : ℕ → ℕ → ℕ
  over_byte y z = nth t y (over_nth y z)

  -- ---- both hold

  unfoldable pub consistent : Bool
  consistent = eqb cycle_row t.rows and eqb over_reader t.rows
