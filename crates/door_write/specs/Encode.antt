-- Places, rows and dependencies as values, and the bytes of their table (docs/FORMAT.md).
use Rattle.std.specs.Prelude.{Bool, cond, List, [], ◌∷◌, ◌++◌, ℕ, ◌+◌, ◌-◌, ◌*◌, ◌/◌, ◌%◌, get_or, ltb, eqb}
use Rattle.finite.specs.Lists.{tabulate}
use Rattle.model.specs.declared.Row.{Row}
use Rattle.model.specs.Limits.{ROWS, DEPENDENCIES}
use Rattle.model.specs.Table.{row_of, source_of}
use Rattle.model.specs.Header.{HEADER, VERSION_HOSTS, PLACE_BYTES, HOSTS_PLACE_BYTES, DEPENDENCY_BYTES, ROW_BYTES, row_bytes, dependency_bytes}
use Rattle.model.specs.Table.{dependency_count, dependency_from, dependency_to}
use Rattle.model.specs.declared.Entry.{Entry}
use Rattle.door_write.specs.declared.Dependencies.{Dependencies}

-- byte k of numbers of two bytes, of which v is the one that it belongs to: big-endian
unfoldable pub half : ℕ → ℕ → ℕ
half v k = cond (eqb (k % 2) 0) (v / 256 % 256) (v % 256)

-- ---- sizes

-- the version has host agents
unfoldable pub with_hosts : ℕ → Bool
with_hosts version = eqb version VERSION_HOSTS

unfoldable pub places_size : ℕ → ℕ → ℕ
places_size version agents = cond (with_hosts version) (HOSTS_PLACE_BYTES * agents) (PLACE_BYTES * agents)

-- their count and the dependencies
unfoldable pub dependencies_size : ℕ → ℕ → ℕ
dependencies_size version n = cond (with_hosts version) (2 + DEPENDENCY_BYTES * n) 0

unfoldable pub table_size : ℕ → ℕ → ℕ → ℕ → ℕ
table_size version agents rows n = HEADER + places_size version agents + ROW_BYTES * rows + dependencies_size version n

-- ---- the header: a count of the bytes after its own four, the version, how many agents and rows there are

unfoldable pub header_list : ℕ → ℕ → ℕ → ℕ → List ℕ
header_list version agents rows size =
    let count = size - 4 in
    count / 16777216 % 256 ∷ count / 65536 % 256 ∷ count / 256 % 256 ∷ count % 256 ∷ version ∷ agents ∷ rows ∷ 0 ∷ []

-- ---- the places

unfoldable pub number_of : List (List ℕ) → ℕ → ℕ → ℕ
number_of p a m = get_or (get_or p a []) m 0

-- the number that byte k of the places belongs to: three of an agent, with host agents four
unfoldable pub place_number : Bool → List (List ℕ) → ℕ → ℕ
place_number hosts p k =
    cond hosts (number_of p (k / HOSTS_PLACE_BYTES) (k % HOSTS_PLACE_BYTES / 2)) (number_of p (k / PLACE_BYTES) (k % PLACE_BYTES / 2))

unfoldable pub place_byte : Bool → List (List ℕ) → ℕ → ℕ
place_byte hosts p k = half (place_number hosts p k) k

-- ---- the rows

unfoldable pub row_list : Row → ℕ → List ℕ
row_list r source =
    r.kind ∷ r.agent ∷ r.order ∷ r.scope ∷ r.classes ∷ r.flags ∷ r.class ∷ r.size
    ∷ r.start / 256 % 256 ∷ r.start % 256 ∷ r.reference / 256 % 256 ∷ r.reference % 256
    ∷ source / 256 % 256 ∷ source % 256 ∷ r.rank / 256 % 256 ∷ r.rank % 256 ∷ []

-- an entry of zeros, in the place of one that isn't there
abbrev pub nothing : Entry
nothing =
    record {
      row = record { kind = 0; agent = 0; order = 0; scope = 0; classes = 0; flags = 0; class = 0; size = 0; start = 0; reference = 0; rank = 0 };
      source = record { 0 = 0 };
    }

unfoldable pub entry_at : List Entry → ℕ → Entry
entry_at l i = get_or l i nothing

-- byte k of the rows
unfoldable pub entry_byte : List Entry → ℕ → ℕ
entry_byte l k = let e = entry_at l (k / ROW_BYTES) in get_or (row_list e.row e.source.0) (k % ROW_BYTES) 0

-- ---- the dependencies

-- the number that byte k of their bytes belongs to: their count, then two rows of each
unfoldable pub dependency_number : Dependencies → ℕ → ℕ
dependency_number d k =
    cond (ltb k 2) d.count
    (cond (ltb ((k - 2) % DEPENDENCY_BYTES) 2) (get_or d.first ((k - 2) / DEPENDENCY_BYTES) 0) (get_or d.second ((k - 2) / DEPENDENCY_BYTES) 0))

unfoldable pub dependency_byte : Dependencies → ℕ → ℕ
dependency_byte d k = half (dependency_number d k) k

-- ---- the table: of places, rows and dependencies as many as are counted, so that no value past them matters

unfoldable pub places_part : ℕ → ℕ → List (List ℕ) → List ℕ
places_part version agents p = tabulate (place_byte (with_hosts version) p) (places_size version agents)

unfoldable pub rows_part : ℕ → List Entry → List ℕ
rows_part rows l = tabulate (entry_byte l) (ROW_BYTES * rows)

unfoldable pub dependencies_part : ℕ → Dependencies → List ℕ
dependencies_part version d = tabulate (dependency_byte d) (dependencies_size version d.count)

unfoldable pub encode : ℕ → ℕ → List (List ℕ) → ℕ → List Entry → Dependencies → List ℕ
encode version agents p rows l d =
    header_list version agents rows (table_size version agents rows d.count)
    ++ places_part version agents p ++ rows_part rows l ++ dependencies_part version d

-- ---- the values of a table, as they were read

-- row i with its source, in the bytes of the rows
unfoldable pub entry_of : List ℕ → ℕ → Entry
entry_of b i = record { row = row_of b i; source = record { 0 = source_of b i } }

-- as many as a table may have: past the rows they are zeros
unfoldable pub entries_in : List ℕ → List Entry
entries_in b = tabulate (entry_of b) ROWS

unfoldable pub entries_of : List ℕ → List Entry
entries_of s = entries_in (row_bytes s)

unfoldable pub dependencies_of : List ℕ → Dependencies
dependencies_of s =
    record {
      count = dependency_count (dependency_bytes s);
      first = tabulate (dependency_from (dependency_bytes s)) DEPENDENCIES;
      second = tabulate (dependency_to (dependency_bytes s)) DEPENDENCIES;
    }
