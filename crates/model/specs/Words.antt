-- What the promises speak of, as propositions: happens-before, a cycle, an overwritten read, a race, well formed, consistent, and
-- the words of demand 3 over a table's bytes.
use Rattle.std.specs.Prelude.{◌≡◌, Bool, true, false, List, ◌⊎◌, ℕ, ◌+◌, ◌*◌, ◌≤◌, ◌<◌, length, get_or}
use Rattle.finite.specs.Closure.{Reach}
use Rattle.model.specs.declared.Admission.TheVariants.{Admitted}
use Rattle.model.specs.Limits.{INITIAL, CLASS_SETS}
use Rattle.model.specs.Table.{Table, table_under, table_of, sources_of}
use Rattle.model.specs.Header.{ROW_BYTES, agents_at, rows_at, rows_begin}
use Rattle.model.specs.Scope.{mutually}
use Rattle.model.specs.Moment.{program_order}
use Rattle.model.specs.Happens.{step}
use Rattle.model.specs.Location.{common, before}
use Rattle.model.specs.Race.{conflict}
use Rattle.model.specs.Edge.{edge, overwrites}
use Rattle.model.specs.Refusal.{admission}
use Rattle.model.specs.Fill.{blank}

-- ---- of a table

-- M6 and M7: program order, or for some class set a path of direct cases
abbrev pub HappensBefore : Table → ℕ → ℕ → Type 0
HappensBefore t m n =
    (program_order t m n ≡ true) ⊎ ((s : ℕ) × (1 ≤ s) × (s ≤ CLASS_SETS) × Reach (step t s) (3 * t.rows) m n)

-- b is a byte of both x and y with no location order either way
abbrev pub Unordered : Table → ℕ → ℕ → ℕ → Type 0
Unordered t x y b = (common (t.row x) (t.row y) b ≡ true) × (before t x y b ≡ false) × (before t y x b ≡ false)

-- two rows conflict, aren't mutually-ordered, and some shared byte has no order
abbrev pub Races : Table → ℕ → ℕ → Type 0
Races t x y = (conflict t x y ≡ true) × (mutually t x y ≡ false) × ((b : ℕ) × Unordered t x y b)

-- x and y are the first pair that races, in row order, and b is its lowest byte with no order
pub record FirstRace (t : Table) (x y b : ℕ) : Type 0 where
  pub below : x < y
  pub rows : y < t.rows
  pub racing : Races t x y
  pub open_byte : Unordered t x y b
  pub first : (u v : ℕ) → u < v → v < t.rows → Races t u v → (x < u) ⊎ ((x ≡ u) × (y ≤ v))
  pub lowest : (c : ℕ) → Unordered t x y c → b ≤ c

-- axiom A is broken: a path of edges leads from a row back to it
abbrev pub Cyclic : Table → (ℕ → ℕ) → Type 0
Cyclic t source = (x : ℕ) × (x < t.rows) × Reach (edge t source) t.rows x x

-- axiom B is broken: a writer z overwrites the source of a reader y before y at b
abbrev pub Overwritten : Table → (ℕ → ℕ) → Type 0
Overwritten t source = (y : ℕ) × (z : ℕ) × (b : ℕ) × (y < t.rows) × (z < t.rows) × (overwrites t source y z b ≡ true)

-- y, z and b are the least that break axiom B, in that order
pub record FirstOverwrite (t : Table) (source : ℕ → ℕ) (y z b : ℕ) : Type 0 where
  pub reader : y < t.rows
  pub writer : z < t.rows
  pub broken : overwrites t source y z b ≡ true
  pub first : (u v c : ℕ) → u < t.rows → v < t.rows → overwrites t source u v c ≡ true
      → (y < u) ⊎ ((y ≡ u) × ((z < v) ⊎ ((z ≡ v) × (b ≤ c))))

abbrev pub Consistent : Table → (ℕ → ℕ) → Type 0
Consistent t source = (Cyclic t source → ⊥) × (Overwritten t source → ⊥)

-- ---- of a table's bytes

-- no refusal that a check can give, 11 aside, holds
abbrev pub WellFormed : List ℕ → Type 0
WellFormed s = admission false s ≡ Admitted (agents_at s) (rows_at s)

-- on a device with or without chains
abbrev pub ConsistentBytes : Bool → List ℕ → Type 0
ConsistentBytes chains s = Consistent (table_under chains s) (sources_of s)

-- row i has a blank
unfoldable pub blank_at : List ℕ → ℕ → Bool
blank_at s i = blank (table_of s) (sources_of s) i

-- the first of the two bytes of row i's source
unfoldable pub source_begin : List ℕ → ℕ → ℕ
source_begin s i = rows_begin s + (i * ROW_BYTES + 12)

-- f is a filling of s (a term of the rules, not of 003): 65535 or the number of a row in the place of each blank, and nothing else changed
pub record Filling (s f : List ℕ) : Type 0 where
  pub size : length f ≡ length s
  pub bytes : (k : ℕ) → get_or f k 0 < 256
  pub named : (i : ℕ) → i < rows_at s → blank_at s i ≡ true → (sources_of f i ≡ INITIAL) ⊎ (sources_of f i < rows_at s)
  pub kept : (k : ℕ) → ((i : ℕ) → i < rows_at s → blank_at s i ≡ true → (k ≡ source_begin s i) ⊎ (k ≡ source_begin s i + 1) → ⊥) → get_or f k 0 ≡ get_or s k 0
