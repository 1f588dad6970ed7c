-- What every set of a table's rows holds, each in a test of the model. Assumes nothing.
use Rattle.std.specs.Prelude.{◌≡◌, Bool, true, List, ℕ, ◌+◌, ◌*◌, ◌≤◌, ◌<◌, length}
use Rattle.finite.specs.Logic.{◌and◌}
use Rattle.model.specs.declared.Row.{Row}
use Rattle.model.specs.Row.{access, class_in}
use Rattle.model.specs.Scope.{together, same_location}
use Rattle.model.specs.Location.{on_host}
use Rattle.model.specs.Availability.{same_reference}
use Rattle.model.specs.Table.{Table}
use Rattle.bits.specs.Within.{Within}
use Rattle.sets_of_rows.specs.declared.Set.{Set}
use Rattle.sets_of_rows.specs.Kept.{set_at}
use Rattle.sets_of_rows.specs.Family.{nth}
use Rattle.sets_of_rows.specs.Rows.{Rows}
use Rattle.model_placing.specs.Shares.{share, hears}
use Rattle.sets_of_table.specs.Says.{Says}
use Rattle.sets_of_table.specs.Share.{SCOPES, SHARE}
use Rattle.sets_of_table.specs.Tested.{Tested}
use Rattle.sets_of_table.specs.Sorted.{Sorted}
use Rattle.sets_of_table.specs.Hears.{ON_HOST, HEARS}
use Rattle.sets_of_table.specs.Fit.{Fit}

-- ---- the layout, in words: after the sets by codes, tests, classes and scopes, a set for each access

abbrev pub PLACE : ℕ
PLACE = 610

abbrev pub REFERENCE : ℕ
REFERENCE = 866

abbrev pub WORDS : ℕ
WORDS = 1122

-- ---- definitions

-- row j is an access of row i's location; of its reference
unfoldable pub same_place : Table → ℕ → ℕ → Bool
same_place t i j = access (t.row j) and same_location (t.row i) (t.row j)

unfoldable pub same_name : Table → ℕ → ℕ → Bool
same_name t i j = access (t.row j) and same_reference (t.row i) (t.row j)

-- the agents of rows i and j share both rows' scopes
unfoldable pub at_together : Table → ℕ → ℕ → Bool
at_together t i j = together t.places (t.row i) (t.row j)

-- row j is an access whose class is in the set m
unfoldable pub classed_in : Table → ℕ → ℕ → Bool
classed_in t m j = access (t.row j) and class_in (t.row j) m

pub record Known (t : Table) (n : ℕ) (s : List ℕ) : Type 0 where
  -- by a code; by a test of a row; by classes
  pub tested : Tested t.row n s
  pub sorted : Sorted t.row n s
  -- by a row's agent: the rows of agents that share scope q with it, and those whose own scope it shares
  pub share : (i q : ℕ) → i < n → q < SCOPES → Rows n (share t (t.row i).agent q) (nth s (SHARE + 10 * (t.row i).agent) q)
  pub hears : (i : ℕ) → i < n → Rows n (hears t (t.row i).agent) (nth s HEARS (t.row i).agent)
  pub hosts : Rows n (on_host t) (set_at s ON_HOST)
  -- by an access: those of its location, and of its reference
  pub place : (i : ℕ) → i < n → access (t.row i) ≡ true → Rows n (same_place t i) (nth s PLACE i)
  pub reference : (i : ℕ) → i < n → access (t.row i) ≡ true → Rows n (same_name t i) (nth s REFERENCE i)

-- what is asked of a table and its sets
pub record Opened (t : Table) (n : ℕ) (s : List ℕ) : Type 0 where
  pub fit : Fit t
  pub rows : t.rows ≡ n
  pub known : Known t n s
  pub space : WORDS ≤ length s

-- what makes the sets says
pub record MadeKnown (t : Table) (n : ℕ) (s u : List ℕ) : Type 0 where
  pub known : Known t n u
  pub frame : Within 0 WORDS s u

-- ---- laws

pub says_rows : {row : ℕ → Row} {n : ℕ} {p : Row → Bool} {x : Set} → Says row n p x → Rows n (λ j. p (row j)) x
says_rows h = record { is = h.is }
