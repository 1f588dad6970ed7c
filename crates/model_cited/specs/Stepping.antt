-- What the answers of stepping through a table's rows mean, of any bytes and any place. To be read like
-- crates/model_promises/specs/Main.antt. What is promised is in proofs/Stepping.antt, in these words.
--
-- The notation: (x : ℕ) → P is "for every x, P"; (x : ℕ) × P "there is an x with P"; A × B "A and B"; A ⊎ B "A or B";
-- A → ⊥ "not A"; A ↔ B "A exactly when B"; a ≡ b "a is b". `r.table` is a field. What stands behind `module _` is of
-- all that is indented below it. `abbrev` gives a name to what follows it.
--
-- The words: `Fillable s` says that a fill doesn't refuse the table s, buffers aside, and `Unfillable s n j` that it
-- does, with number n at row j (crates/model_promises/specs/Terms.antt); `rows_at s` is the count of its rows,
-- `row_bytes s` their bytes, `row_of (row_bytes s) i` row i as a value and `source_of (row_bytes s) i` its source;
-- `source n` is the source n as a value (Terms.antt); `row_list r n` is the sixteen bytes of a row r with the source n
-- (crates/door_write/specs/Encode.antt); `Bytes s` says that the numbers of s are bytes, as those of a `&[u8]` are.
--
-- From a function to its meaning: the contract of a function is an equation. This page speaks of its right side:
--   door_step::step_from        is `step_result (stepped_at s i)`: a reader opened on the table s, put at place i, and one
--     step of it
--   door_step::open             says `admission true s` and gives a reader r with `Opens s r`
--   door_step::try_open         gives that reader r of a table that a fill admits, and of any other its refusal
--   door_step::RowReader::next  is `steps_of r i` at call i, counted from 0
-- `step_cases` (proofs/Stepping.antt) has each case of a step's result; crates/stramashly_numbers/specs/Main.antt the
-- number that C gets for a step, and what its buffer then holds.
use Rattle.std.specs.Prelude.{◌≡◌, List, ◌⊎◌, ℕ, ◌+◌, ◌≤◌, ◌<◌}
use Rattle.model.specs.Table.{row_of, source_of}
use Rattle.model.specs.Header.{rows_at, row_bytes}
use Rattle.std.specs.declared.option.Option.{Option}
use Rattle.std.specs.declared.option.Option.TheVariants.{None, Some}
use Rattle.model.specs.declared.Entry.{Entry}
use Rattle.door_step.specs.Steps.{StepAnswer}
use Rattle.model_promises.specs.Terms.{Fillable, Unfillable}
use Rattle.model_cited.specs.Terms.{source}

-- ==== What each answer means. It is given exactly when its meaning holds

module _ (s : List ℕ) (i : ℕ) where
  -- a step from place i: what a fill refuses gets that refusal, number and row, at every place; else row i and the
  -- place after it, or past the last row the end, which stays where it is
  abbrev pub StepMeans : StepAnswer → Type 0
  StepMeans (StepAnswer.Refused n j) = Unfillable s n j
  StepMeans (StepAnswer.Row r c next) = Fillable s × (i < rows_at s)
      × (r ≡ row_of (row_bytes s) i) × (c ≡ source (source_of (row_bytes s) i)) × (next ≡ i + 1)
  StepMeans (StepAnswer.End next) = Fillable s × (rows_at s ≤ i) × (next ≡ i)

  -- call i of a reader that was opened on s: rows 0 onward, each once, then the end; of what a fill refuses, the end
  abbrev pub NextMeans : Option Entry → Type 0
  NextMeans (Some e) =
      Fillable s × (i < rows_at s) × (e.row ≡ row_of (row_bytes s) i) × (e.source ≡ source (source_of (row_bytes s) i))
  NextMeans None = (Fillable s × (rows_at s ≤ i)) ⊎ ((n : ℕ) × (j : ℕ) × Unfillable s n j)
