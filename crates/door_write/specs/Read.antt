-- What a reader gives back of a table: its values, in the front of three lent parts.
use Rattle.std.specs.Prelude.{Bool, true, cond, List, ◌++◌, ℕ, ◌*◌, ◌/◌, ◌%◌, length, get_or, drop, leb, eqb}
use Rattle.finite.specs.Logic.{◌and◌}
use Rattle.finite.specs.Lists.{tabulate}
use Rattle.model.specs.Limits.{AGENTS, ROWS, DEPENDENCIES}
use Rattle.model.specs.Table.{dependency_count}
use Rattle.model.specs.Header.{ROW_BYTES, version_at, agents_at, rows_at, places_of, dependency_bytes}
use Rattle.std.specs.declared.result.Result.{Result}
use Rattle.std.specs.declared.result.Result.TheVariants.{Ok, Err}
use Rattle.model.specs.declared.Refusal.{Refusal}
use Rattle.model.specs.Refusal.{refusal, admission, when_admitted}
use Rattle.door_write.specs.declared.Dependencies.{Dependencies}
use Rattle.door_write.specs.declared.Sizes.{Sizes}
use Rattle.door_write.specs.Encode.{number_of, rows_part, entries_of, dependencies_of}
use Rattle.door_write.specs.Parts.{PLACE_NUMBERS}

-- ---- the parts

-- the numbers of so many agents' places, four each
unfoldable pub place_number_at : List (List ℕ) → ℕ → ℕ
place_number_at p k = number_of p (k / PLACE_NUMBERS) (k % PLACE_NUMBERS)

unfoldable pub place_numbers : List (List ℕ) → ℕ → List ℕ
place_numbers p agents = tabulate (place_number_at p) (PLACE_NUMBERS * agents)

-- the numbers of the dependencies, two each
unfoldable pub end_of : Dependencies → ℕ → ℕ
end_of d k = cond (eqb (k % 2) 0) (get_or d.first (k / 2) 0) (get_or d.second (k / 2) 0)

unfoldable pub end_numbers : Dependencies → List ℕ
end_numbers d = tabulate (end_of d) (2 * d.count)

-- a buffer whose front is this list; what stands after it stays
unfoldable pub fronted : List ℕ → List ℕ → List ℕ
fronted l out = l ++ drop (length l) out

-- ---- the answer: 11 where a part is too short for some table; what a fill refuses; else the version and the three counts

pub data ReadAnswer : Type 0 where
  -- number and row
  Refused : ℕ → ℕ → ReadAnswer
  -- version, agents, rows, dependencies
  Read : ℕ → ℕ → ℕ → ℕ → ReadAnswer

unfoldable pub lent_fit : ℕ → ℕ → ℕ → Bool
lent_fit places rows dependencies = leb (PLACE_NUMBERS * AGENTS) places and leb (ROW_BYTES * ROWS) rows and leb (2 * DEPENDENCIES) dependencies

unfoldable pub read_answer : List ℕ → ℕ → ℕ → ℕ → ReadAnswer
read_answer s places rows dependencies =
    cond (lent_fit places rows dependencies)
    (when_admitted Refused (admission true s) (Read (version_at s) (agents_at s) (rows_at s) (dependency_count (dependency_bytes s))))
    (Refused 11 0)

-- ---- the lent parts: untouched where the reading is refused

unfoldable pub places_after : ReadAnswer → List ℕ → List ℕ → List ℕ
places_after (Read version agents rows n) s out = fronted (place_numbers (places_of s) agents) out
places_after (Refused k i) s out = out

unfoldable pub rows_after : ReadAnswer → List ℕ → List ℕ → List ℕ
rows_after (Read version agents rows n) s out = fronted (rows_part rows (entries_of s)) out
rows_after (Refused k i) s out = out

unfoldable pub dependencies_after : ReadAnswer → List ℕ → List ℕ → List ℕ
dependencies_after (Read version agents rows n) s out = fronted (end_numbers (dependencies_of s)) out
dependencies_after (Refused k i) s out = out

-- ---- what comes back: the version and the counts, else the refusal, as a program has them

unfoldable pub read_result : ReadAnswer → Result Sizes Refusal
read_result (Refused k i) = Err (refusal k i)
read_result (Read v a n m) = Ok (record { version = v; agents = a; rows = n; dependencies = m })
