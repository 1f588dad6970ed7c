-- What admission gives of a table, as the stages ask it. Assumes nothing.
use Rattle.std.specs.Prelude.{◌≡◌, true, false, List, ℕ, ◌+◌, ◌≤◌, ◌<◌}
use Rattle.model.specs.Limits.{ROWS, DEPENDENCIES, BYTES}
use Rattle.model.specs.Row.{plain, access, control}
use Rattle.model.specs.Table.{Table}
use Rattle.model_laws.specs.ChainLaws.{Scoped}
use Rattle.model_laws.specs.RaceLaws.{Sized}
use Rattle.run.specs.Layout.{mode_in, table_in}
use Rattle.model_placing.specs.Writer.{OneClass}
use Rattle.sets_of_table.specs.Filed.{Coded}

-- ---- definitions

pub record Fit (t : Table) : Type 0 where
  pub few : t.rows ≤ ROWS
  -- each code has a set; scopes are five, and an access's class is one of four
  pub coded : (i : ℕ) → i < t.rows → Coded (t.row i)
  pub scoped : Scoped t
  pub classed : (i : ℕ) → i < t.rows → access (t.row i) ≡ true → (t.row i).class < 4
  pub executed : (i : ℕ) → i < t.rows → control (t.row i) ≡ true → (t.row i).class < 5
  -- plain rows have no semantics
  pub bare : (i : ℕ) → i < t.rows → plain (t.row i) ≡ true → (t.row i).classes ≡ 0
  -- accesses have 1 to 16 bytes, whose numbers have 16 bits; other rows have none
  pub sized : Sized t
  pub filled : (i : ℕ) → i < t.rows → access (t.row i) ≡ true → 1 ≤ (t.row i).size
  pub ended : (i : ℕ) → i < t.rows → access (t.row i) ≡ true → (t.row i).start + (t.row i).size ≤ BYTES
  pub empty : (i : ℕ) → i < t.rows → access (t.row i) ≡ false → (t.row i).size ≡ 0
  -- one reference has one class
  pub one : OneClass t
  -- dependencies name rows
  pub named : (a b : ℕ) → t.depends a b ≡ true → (a < t.rows) × (b < t.rows)

-- of a run of n rows
pub record FitRun (t : List ℕ) (n : ℕ) : Type 0 where
  pub fit : Fit (table_in t n)
  pub few : (mode_in t).dependencies ≤ DEPENDENCIES
