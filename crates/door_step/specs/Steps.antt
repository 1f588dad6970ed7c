-- What stands at a place among a table's rows, and the next place.
use Rattle.std.specs.Prelude.{◌≡◌, true, cond, List, [], ℕ, zero, suc, ◌+◌, ◌-◌, leb, MatchResult}
use Rattle.std.specs.declared.option.Option.{Option}
use Rattle.std.specs.declared.option.Option.TheVariants.{None, Some}
use Rattle.std.specs.declared.result.Result.{Result}
use Rattle.std.specs.declared.result.Result.TheVariants.{Ok, Err}
use Rattle.model.specs.declared.Row as Rows
use Rattle.model.specs.declared.Source.{Source}
use Rattle.model.specs.declared.Entry.{Entry}
use Rattle.model.specs.declared.Refusal.{Refusal}
use Rattle.model.specs.declared.Admission.{Admission}
use Rattle.model.specs.Refusal.{refusal}
use Rattle.model.specs.declared.Admission.TheVariants as admit
use Rattle.model.specs.Table.{row_of, source_of}
use Rattle.model.specs.Header.{agents_at, rows_at, row_bytes}
use Rattle.door_step.specs.declared.RowReader.{RowReader}
use Rattle.door_step.specs.declared.Stepped.{Stepped}
use Rattle.door_step.specs.declared.Stepped.TheVariants as answer
use Rattle.model.specs.Refusal.{admission}

-- row i of a table, with its source
abbrev pub entry_at : List ℕ → ℕ → Entry
entry_at s i = record { row = row_of (row_bytes s) i; source = record { 0 = source_of (row_bytes s) i } }

-- the row at a place; none at the end
unfoldable pub step_at : List ℕ → ℕ → Option Entry
step_at s i = cond (leb (rows_at s) i) None (Some (entry_at s i))

unfoldable pub next_at : List ℕ → ℕ → ℕ
next_at s i = cond (leb (rows_at s) i) i (i + 1)

-- what of a table is opened: all of it where it is admitted, else nothing
unfoldable pub opened_part : Admission → List ℕ → List ℕ
opened_part (admit.Admitted a n) s = s
opened_part (admit.Refused k i) s = []

-- the same table, at the next place
abbrev pub moved : RowReader → RowReader
moved r = record { table = r.table; at = next_at r.table.now r.at }

-- after n steps
unfoldable pub moved_by : ℕ → RowReader → RowReader
moved_by zero r = r
moved_by (suc n) r = moved (moved_by n r)

-- what step n gives, from 0
unfoldable pub steps_of : RowReader → ℕ → Option Entry
steps_of r n = let q = moved_by n r in step_at q.table.now q.at

-- the rows that are left to it
abbrev pub rows_left : RowReader → ℕ
rows_left r = rows_at r.table.now - r.at

-- what `try_open` gives of a table: a reader of it at place 0 where a fill admits it, else the refusal
abbrev pub OpenGives : List ℕ → Result RowReader Refusal → Type 0
OpenGives s answer =
    MatchResult answer
    (λ r. (admission true s ≡ admit.Admitted (agents_at s) (rows_at s)) × (r.table.now ≡ opened_part (admission true s) s) × (r.at ≡ 0))
    (λ x. admission true s ≡ admit.Refused x.number x.row)

-- ---- a step from a place, as one answer

pub data StepAnswer : Type 0 where
  -- number and row
  Refused : ℕ → ℕ → StepAnswer
  -- the row and its source, and the next place
  Row : Rows.Row → Source → ℕ → StepAnswer
  -- the end's place
  End : ℕ → StepAnswer

-- a refused table's is its refusal; else what the step gave, and the reader's place after it
unfoldable pub stepped : Admission → Option Entry → ℕ → StepAnswer
stepped (admit.Refused k i) s next = Refused k i
stepped (admit.Admitted a n) (Some e) next = Row e.row e.source next
stepped (admit.Admitted a n) None next = End next

-- of a table that a fill is asked about: the reader of what was opened, at place i, and its step
unfoldable pub stepped_at : List ℕ → ℕ → StepAnswer
stepped_at s i = let a = admission true s in let t = opened_part a s in stepped a (step_at t i) (next_at t i)

-- the same, as a program has it
unfoldable pub step_result : StepAnswer → Result Stepped Refusal
step_result (Refused k i) = Err (refusal k i)
step_result (Row r c next) = Ok (answer.Row (record { row = r; source = c }) next)
step_result (End next) = Ok (answer.End next)
