-- What is promised of stepping through a table's rows, of any bytes and any place. To be read like
-- crates/model_promises/specs/Main.antt: each proof names a theorem of a page beside this one. The notation, the words
-- and the meanings are those of specs/Stepping.antt.
use Rattle.std.specs.Prelude.{◌≡◌, List, ◌↔◌, ℕ, ◌*◌, ◌≤◌, take, drop}
use Rattle.model.specs.declared.{Row.Row, Source.Source}
use Rattle.model.specs.Header.{ROW_BYTES, row_bytes}
use Rattle.model.specs.Refusal.{refusal}
use Rattle.door_write.specs.Encode.{row_list}
use Rattle.door_step.specs.declared.{RowReader.RowReader, Stepped.Stepped}
use Rattle.std.specs.declared.option.Option.{Option}
use Rattle.std.specs.declared.option.Option.TheVariants.{None, Some}
use Rattle.std.specs.declared.result.Result.TheVariants.{Ok, Err}
use Rattle.model.specs.declared.Entry.{Entry}
use Rattle.door_step.specs.Steps.{StepAnswer}
use Rattle.door_step.specs.Steps.{steps_of, stepped_at, step_result}
use Rattle.model_promises.specs.Terms.{Bytes}
use Rattle.model_cited.specs.Terms.{Opens}
use Rattle.model_cited.specs.Stepping.{StepMeans, NextMeans}
use Rattle.model_cited.proofs as beside

-- ==== What each answer means. It is given exactly when its meaning holds

module _ (s : List ℕ) (i : ℕ) where
  -- a step from place i: what a fill refuses gets that refusal, number and row, at every place; else row i and the
  -- place after it, or past the last row the end, which stays where it is
  pub step_means : (x : StepAnswer) → (stepped_at s i ≡ x) ↔ StepMeans s i x
  step_means (StepAnswer.Refused n j) = beside.StepExactly.exactly s i (StepAnswer.Refused n j)
  step_means (StepAnswer.Row r c next) = beside.StepExactly.exactly s i (StepAnswer.Row r c next)
  step_means (StepAnswer.End next) = beside.StepExactly.exactly s i (StepAnswer.End next)

  -- call i of a reader that was opened on s: rows 0 onward, each once, then the end; of what a fill refuses, the end
  pub next_means : (r : RowReader) → Opens s r → (x : Option Entry) → (steps_of r i ≡ x) ↔ NextMeans s i x
  next_means r o (Some e) = beside.StepExactly.next_exactly s i r o (Some e)
  next_means r o None = beside.StepExactly.next_exactly s i r o None

-- ==== A program's result: each case is given exactly for its answer, with its numbers

-- a step: `Err` is its refusal, `Ok` the row with its source and the place after it, or the end and its place
pub step_cases : (x : StepAnswer) → ((n j : ℕ) → (step_result x ≡ Err (refusal n j)) ↔ (x ≡ StepAnswer.Refused n j))
    × ((e : Entry) (next : ℕ) → (step_result x ≡ Ok (Stepped.Row e next)) ↔ (x ≡ StepAnswer.Row e.row e.source next))
    × ((next : ℕ) → (step_result x ≡ Ok (Stepped.End next)) ↔ (x ≡ StepAnswer.End next))
step_cases x = (beside.StepExactly.steps_refused x, beside.StepExactly.steps_row x, beside.StepExactly.steps_end x)

-- ==== What follows

-- a row that was given is, written down again, the sixteen bytes that stand in the table
pub row_bytes_lem : (s : List ℕ) → Bytes s → (i : ℕ) (r : Row) (c : Source) (next : ℕ)
    → stepped_at s i ≡ StepAnswer.Row r c next
    → row_list r c.0 ≡ take ROW_BYTES (drop (ROW_BYTES * i) (row_bytes s))
row_bytes_lem = beside.StepExactly.row_bytes_lem

-- a table that is refused at one place is refused so at every other
pub refused_everywhere : (s : List ℕ) (i n j : ℕ) → stepped_at s i ≡ StepAnswer.Refused n j
    → (k : ℕ) → stepped_at s k ≡ StepAnswer.Refused n j
refused_everywhere = beside.StepExactly.refused_everywhere

-- after the end there is the end at every further place
pub end_stays : (s : List ℕ) (i next : ℕ) → stepped_at s i ≡ StepAnswer.End next
    → (k : ℕ) → i ≤ k → stepped_at s k ≡ StepAnswer.End k
end_stays = beside.StepExactly.end_stays

-- and of a reader: after its end there are no rows
pub next_end_stays : (s : List ℕ) (r : RowReader) → Opens s r → (i : ℕ) → steps_of r i ≡ None
    → (k : ℕ) → i ≤ k → steps_of r k ≡ None
next_end_stays = beside.StepExactly.next_end_stays
