-- The values that a caller without structs hands over: four numbers for each place, sixteen bytes for each row, two numbers for each
-- dependency. Whole parts count, and a rest that is no whole part counts for nothing.
use Rattle.std.specs.Prelude.{cond, List, [], ◌∷◌, ℕ, ◌+◌, ◌*◌, ◌/◌, length, get_or, ltb}
use Rattle.finite.specs.Lists.{tabulate}
use Rattle.model.specs.Limits.{AGENTS, DEPENDENCIES}
use Rattle.model.specs.Header.{ROW_BYTES}
use Rattle.door_write.specs.declared.Dependencies.{Dependencies}
use Rattle.door_write.specs.Answer.{WriteAnswer}
use Rattle.door_write.specs.Encode.{entries_in, encode}
use Rattle.door_write.specs.Answer.{write_answer}

-- a count as its type has it: one that is over the most is over every limit of a table
unfoldable pub capped : ℕ → ℕ → ℕ
capped n most = cond (ltb n most) n most

abbrev pub PLACE_NUMBERS : ℕ
PLACE_NUMBERS = 4

unfoldable pub agents_in : List ℕ → ℕ
agents_in q = capped (length q / PLACE_NUMBERS) 255

unfoldable pub place_in : List ℕ → ℕ → List ℕ
place_in q a = get_or q (a * PLACE_NUMBERS + 0) 0 ∷ get_or q (a * PLACE_NUMBERS + 1) 0 ∷ get_or q (a * PLACE_NUMBERS + 2) 0 ∷ get_or q (a * PLACE_NUMBERS + 3) 0 ∷ []

unfoldable pub places_in : List ℕ → List (List ℕ)
places_in q = tabulate (place_in q) AGENTS

unfoldable pub rows_in : List ℕ → ℕ
rows_in b = capped (length b / ROW_BYTES) 255

-- the first or second row of dependency k, by 0 or 1
unfoldable pub end_in : List ℕ → ℕ → ℕ → ℕ
end_in q at k = get_or q (k * 2 + at) 0

unfoldable pub dependencies_in : List ℕ → Dependencies
dependencies_in q =
    record {
      count = capped (length q / 2) 65535;
      first = tabulate (end_in q 0) DEPENDENCIES;
      second = tabulate (end_in q 1) DEPENDENCIES;
    }

-- ---- what a writer makes of them

unfoldable pub parts_answer : ℕ → List ℕ → List ℕ → List ℕ → ℕ → WriteAnswer
parts_answer version places rows dependencies room =
    write_answer version (agents_in places) (places_in places) (rows_in rows) (entries_in rows) (dependencies_in dependencies) room

unfoldable pub parts_table : ℕ → List ℕ → List ℕ → List ℕ → List ℕ
parts_table version places rows dependencies =
    encode version (agents_in places) (places_in places) (rows_in rows) (entries_in rows) (dependencies_in dependencies)
