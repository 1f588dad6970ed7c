-- The table: the rows, sources and dependencies that stand in its bytes, and what the rules of order read. A filling (Words) has the place of a
-- source too; two pieces and the writer have the layout again, for bytes that they make.
use Rattle.std.specs.Prelude.{Bool, false, cond, List, [], ℕ, ◌+◌, ◌*◌, get_or, leb, eqb}
use Rattle.finite.specs.Logic.{◌and◌}
use Rattle.finite.specs.Below.{any_below}
use Rattle.finite.specs.Lists.{tabulate}
use Rattle.model.specs.declared.Row.{Row}
use Rattle.model.specs.Limits.{DEPENDENCIES, INITIAL}
use Rattle.model.specs.Row.{atomic}
use Rattle.model.specs.Header.{pair_at, VERSION_COUNTED, DEPENDENCY_BYTES, ROW_BYTES, version_at, rows_at, places_of, row_bytes, dependency_bytes}

-- What the rules of order read. A plain read's source is not here, so that no order or race can depend on one: `source` is
-- an atomic row's, and the initial value for every other row.
pub record Table : Type 0 where
  -- how many rows there are
  pub rows : ℕ
  -- each agent's family, workgroup and subgroup numbers (an agent's place: a term of the rules, not of 003), and what it is: see Scope.antt
  pub places : List (List ℕ)
  -- ranks are counted: see `later` in Scope.antt
  pub counted : Bool
  -- the device reports vulkanMemoryModelAvailabilityVisibilityChains: see L3 in Location.antt
  pub chains : Bool
  pub row : ℕ → Row
  pub source : ℕ → ℕ
  -- a dependency: the first row system-synchronizes-with the second
  pub depends : ℕ → ℕ → Bool

-- ---- the rows, over their bytes alone: byte k of row i is at 16 × i + k

unfoldable pub byte_of : List ℕ → ℕ → ℕ → ℕ
byte_of b i k = get_or b (i * ROW_BYTES + k) 0

unfoldable pub pair_of : List ℕ → ℕ → ℕ → ℕ
pair_of b i k = pair_at b (i * ROW_BYTES + k)

unfoldable pub row_of : List ℕ → ℕ → Row
row_of b i =
    record {
      kind = byte_of b i 0;
      agent = byte_of b i 1;
      order = byte_of b i 2;
      scope = byte_of b i 3;
      classes = byte_of b i 4;
      flags = byte_of b i 5;
      class = byte_of b i 6;
      size = byte_of b i 7;
      start = pair_of b i 8;
      reference = pair_of b i 10;
      rank = pair_of b i 14;
    }

-- the source that stands in row i
unfoldable pub source_of : List ℕ → ℕ → ℕ
source_of b i = pair_of b i 12

unfoldable pub atomic_source : List ℕ → ℕ → ℕ
atomic_source b i = cond (atomic (row_of b i)) (source_of b i) INITIAL

-- ---- the dependencies, over their bytes alone: a count and so many pairs of rows

unfoldable pub dependency_count : List ℕ → ℕ
dependency_count d = pair_at d 0

-- the row that stands at byte `at` of the first of them, in the k-th
unfoldable pub dependency_end : List ℕ → ℕ → ℕ → ℕ
dependency_end d at k = pair_at d (at + k * DEPENDENCY_BYTES)

unfoldable pub dependency_from : List ℕ → ℕ → ℕ
dependency_from d k = dependency_end d 2 k

unfoldable pub dependency_to : List ℕ → ℕ → ℕ
dependency_to d k = dependency_end d 4 k

-- ---- what the rules of order go by beside rows and places

pub record Mode : Type 0 where
  pub counted : Bool
  pub chains : Bool
  pub dependencies : ℕ
  -- the two rows of each
  pub first : List ℕ
  pub second : List ℕ

-- `chains` is an input like the table; of the dependencies there are as many as a table may have
unfoldable pub mode_of : Bool → List ℕ → Mode
mode_of chains s =
    record {
      counted = leb VERSION_COUNTED (version_at s);
      chains = chains;
      dependencies = dependency_count (dependency_bytes s);
      first = tabulate (dependency_from (dependency_bytes s)) DEPENDENCIES;
      second = tabulate (dependency_to (dependency_bytes s)) DEPENDENCIES;
    }

-- none of it, for what reads no mode
abbrev pub OFF : Mode
OFF = record { counted = false; chains = false; dependencies = 0; first = []; second = [] }

-- the k-th dependency is of x and y
unfoldable pub dependency : Mode → ℕ → ℕ → ℕ → Bool
dependency g x y k = eqb (get_or g.first k 0) x and eqb (get_or g.second k 0) y

unfoldable pub depends_of : Mode → ℕ → ℕ → Bool
depends_of g x y = any_below g.dependencies (dependency g x y)

-- ---- decoding

-- the table of n rows in the bytes b, with the places p, in the mode g
unfoldable pub decode : List ℕ → List (List ℕ) → Mode → ℕ → Table
decode b p g n =
    record {
      rows = n;
      places = p;
      counted = g.counted;
      chains = g.chains;
      row = row_of b;
      source = atomic_source b;
      depends = depends_of g;
    }

-- the table in all of its bytes, on a device with or without chains, and all of its sources
unfoldable pub table_under : Bool → List ℕ → Table
table_under chains s = decode (row_bytes s) (places_of s) (mode_of chains s) (rows_at s)

-- the same where chains don't matter: nothing but L3 reads them
unfoldable pub table_of : List ℕ → Table
table_of s = table_under false s

unfoldable pub sources_of : List ℕ → ℕ → ℕ
sources_of s = source_of (row_bytes s)
