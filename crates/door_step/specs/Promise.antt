-- The stepping reader, in its reader's words: what a fill refuses, 11 aside, isn't opened; else the steps give rows 0 onward, each once, then the
-- end at every further call. What is assumed of the reader r is what the contract of `open` ensures; `steps_of r i` is what call i of
-- `next` gives, by the contract of `next`. What `open` says of the table beside the reader is `admission true s` itself; `try_open` gives that
-- reader where a fill admits the table, else the refusal.
-- `stepped_at s i` is what `step_from` gives: a reader opened on s, put at place i, and one step of it.
use Rattle.std.specs.Prelude.{◌≡◌, true, ℕ, ◌+◌, ◌≤◌, ◌<◌}
use Rattle.std.proofs.Math.Path.{refl, ap}
use Rattle.std.proofs.Common.{sym, ◌∙◌, arith}
use mathlib.Core.List.{List, []}
use Rattle.model.specs.declared.Admission.{Admission}
use Rattle.model.specs.declared.Admission.TheVariants.{Admitted, Refused}
use Rattle.model.specs.Table.{row_of, source_of}
use Rattle.model.specs.Header.{rows_at, row_bytes}
use Rattle.model.specs.Refusal.{admission}
use Rattle.model_laws.specs.AdmissionLaws.{sound_admitted, admitted_sound}
use Rattle.door_step.specs.declared.RowReader.{RowReader}
use Rattle.std.specs.declared.option.Option.TheVariants.{None, Some}
use Rattle.door_step.specs.Steps as answer
use Rattle.door_step.specs.Steps.{entry_at, step_at, next_at, opened_part, steps_of, stepped, stepped_at}
use Rattle.door_step.specs.StepLaws.{step_end, step_row, next_stays, next_moves, steps_rows, steps_end}

rows_counted : (s : List ℕ) (a n : ℕ) → admission true s ≡ Admitted a n → n ≡ rows_at s
rows_counted s a n e = ap rows_in_lem (sym e ∙ sound_admitted true s (admitted_sound true s e))
  where
    rows_in_lem : Admission → ℕ
    rows_in_lem (Admitted x y) = y
    rows_in_lem (Refused x y) = 0

-- of a reader r that was opened on the table s
module _ (s : List ℕ) (r : RowReader) (whole : r.table.now ≡ opened_part (admission true s) s) (start : r.at ≡ 0) where
  module _ (a n : ℕ) (e : admission true s ≡ Admitted a n) where
    all_of : r.table.now ≡ s
    unfolding opened_part
    all_of = whole ∙ ap (λ (x : Admission). opened_part x s) e

    count_of : n ≡ rows_at s
    count_of = rows_counted s a n e

    -- rows 0 onward, each once
    pub opened_rows : (i : ℕ) → i < n → steps_of r i ≡ Some (entry_at s i)
    opened_rows i l =
        let m : i < rows_at r.table.now = rw (all_of, ← count_of) l in
        steps_rows i r start m ∙ ap (λ (t : List ℕ). Some (entry_at t i)) all_of

    -- then the end at every further call
    pub opened_end : (i : ℕ) → n ≤ i → steps_of r i ≡ None
    opened_end i l = steps_end i r start (rw (all_of, ← count_of) l)

  -- what a fill refuses isn't opened: it has no rows
  pub refused_end : (k j : ℕ) → admission true s ≡ Refused k j → (i : ℕ) → steps_of r i ≡ None
  unfolding opened_part rows_at
  refused_end k j e i =
      let none : r.table.now ≡ [] = whole ∙ ap (λ (x : Admission). opened_part x s) e in
      steps_end i r start (rw none (omega arith))

-- ---- a step from a place

-- a table that a fill refuses gets that refusal at every place
pub from_refused : (s : List ℕ) (k j : ℕ) → admission true s ≡ Refused k j → (i : ℕ) → stepped_at s i ≡ answer.Refused k j
unfolding stepped_at stepped
from_refused s k j e i = rw e refl

module _ (s : List ℕ) (a n : ℕ) (e : admission true s ≡ Admitted a n) where
  opened_all : (i : ℕ) → stepped_at s i ≡ stepped (Admitted a n) (step_at s i) (next_at s i)
  unfolding stepped_at opened_part
  opened_all i = rw e refl

  -- row i and the place after it
  pub from_row_lem : (i : ℕ) → i < n → stepped_at s i ≡ answer.Row (row_of (row_bytes s) i) (record { 0 = source_of (row_bytes s) i }) (i + 1)
  unfolding stepped
  from_row_lem i l =
      let c = rows_counted s a n e in
      opened_all i ∙ rw (step_row s i n c l, next_moves s i n c l) refl

  -- the end, where it stays
  pub from_end : (i : ℕ) → n ≤ i → stepped_at s i ≡ answer.End i
  unfolding stepped
  from_end i l =
      let c = rows_counted s a n e in
      opened_all i ∙ rw (step_end s i n c l, next_stays s i n c l) refl
