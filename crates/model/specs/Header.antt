-- The header and the places of a table, and where its rows and dependencies begin and end, over all of its bytes.
use Rattle.std.specs.Prelude.{Bool, cond, List, [], ◌∷◌, ℕ, ◌+◌, ◌*◌, get_or, take, drop, ltb, eqb}
use Rattle.finite.specs.Lists.{tabulate}
use Rattle.model.specs.Limits.{AGENTS}

-- ---- numbers in the bytes, big-endian

unfoldable pub pair_at : List ℕ → ℕ → ℕ
pair_at s k = get_or s k 0 * 256 + get_or s (k + 1) 0

unfoldable pub quad_at : List ℕ → ℕ → ℕ
quad_at s k = pair_at s k * 65536 + pair_at s (k + 2)

-- ---- the header, over all bytes of a table

abbrev pub HEADER : ℕ
HEADER = 8

-- the versions: the first, the first with counted ranks, and the one with host agents
abbrev pub VERSION_PLAIN : ℕ
VERSION_PLAIN = 1

abbrev pub VERSION_COUNTED : ℕ
VERSION_COUNTED = 2

abbrev pub VERSION_HOSTS : ℕ
VERSION_HOSTS = 3

-- the bytes of a place, without host agents and with them, of a dependency and of a row
abbrev pub PLACE_BYTES : ℕ
PLACE_BYTES = 6

abbrev pub HOSTS_PLACE_BYTES : ℕ
HOSTS_PLACE_BYTES = 8

abbrev pub DEPENDENCY_BYTES : ℕ
DEPENDENCY_BYTES = 4

abbrev pub ROW_BYTES : ℕ
ROW_BYTES = 16

unfoldable pub count_at : List ℕ → ℕ
count_at s = quad_at s 0

unfoldable pub version_at : List ℕ → ℕ
version_at s = get_or s 4 0

unfoldable pub agents_at : List ℕ → ℕ
agents_at s = get_or s 5 0

unfoldable pub rows_at : List ℕ → ℕ
rows_at s = get_or s 6 0

unfoldable pub zero_at : List ℕ → ℕ
zero_at s = get_or s 7 0

-- the table has host agents
unfoldable pub has_hosts : List ℕ → Bool
has_hosts s = eqb (version_at s) VERSION_HOSTS

-- the four numbers of agent a; without host agents the fourth is 0, a shader agent's
unfoldable pub shader_place_at : List ℕ → ℕ → List ℕ
shader_place_at s a =
    pair_at s (HEADER + a * PLACE_BYTES + 0) ∷ pair_at s (HEADER + a * PLACE_BYTES + 2) ∷ pair_at s (HEADER + a * PLACE_BYTES + 4) ∷ 0 ∷ []

unfoldable pub any_place_at : List ℕ → ℕ → List ℕ
any_place_at s a =
    pair_at s (HEADER + a * HOSTS_PLACE_BYTES + 0) ∷ pair_at s (HEADER + a * HOSTS_PLACE_BYTES + 2)
    ∷ pair_at s (HEADER + a * HOSTS_PLACE_BYTES + 4) ∷ pair_at s (HEADER + a * HOSTS_PLACE_BYTES + 6) ∷ []

unfoldable pub place_at : List ℕ → ℕ → List ℕ
place_at s a = cond (has_hosts s) (any_place_at s a) (shader_place_at s a)

-- a slot for each agent there may be, zeros past the table's agents
unfoldable pub slot_at : List ℕ → ℕ → List ℕ
slot_at s a = cond (ltb a (agents_at s)) (place_at s a) (0 ∷ 0 ∷ 0 ∷ 0 ∷ [])

unfoldable pub places_of : List ℕ → List (List ℕ)
places_of s = tabulate (slot_at s) AGENTS

-- where the rows begin, and end
unfoldable pub rows_begin : List ℕ → ℕ
rows_begin s = cond (has_hosts s) (HEADER + HOSTS_PLACE_BYTES * agents_at s) (HEADER + PLACE_BYTES * agents_at s)

unfoldable pub rows_end : List ℕ → ℕ
rows_end s = rows_begin s + ROW_BYTES * rows_at s

-- how long the table is: with host agents, a count of dependencies and these come after the rows
unfoldable pub size_of : List ℕ → ℕ
size_of s = cond (has_hosts s) (rows_end s + 2 + DEPENDENCY_BYTES * pair_at s (rows_end s)) (rows_end s)

-- the bytes of the rows
unfoldable pub row_bytes : List ℕ → List ℕ
row_bytes s = take (ROW_BYTES * rows_at s) (drop (rows_begin s) s)

-- the bytes after them: the dependencies'. Once the length fits, a table without host agents has none there, and their count reads as 0
unfoldable pub dependency_bytes : List ℕ → List ℕ
dependency_bytes s = drop (rows_end s) s
