-- What stepping hands to C: a table's own sixteen bytes, a row at a time; and a report's share. Assumes nothing.
use Rattle.std.specs.Prelude.{◌≡◌, refl, true, List, ℕ, ◌+◌, ◌*◌, ◌≤◌, ◌<◌, length, get_or, take, drop, Float}
use Rattle.std.proofs.Math.Path.{ap}
use Rattle.std.proofs.Common.{◌∙◌, le-leb}
use Rattle.std.proofs.Math.Seq.{take_at, drop_at}
use Rattle.model.specs.declared.Admission.TheVariants.{Admitted, Refused}
use Rattle.model.specs.declared.Report.{Report}
use Rattle.model.specs.Report as told
use Rattle.model.specs.declared.Row.{Row}
use Rattle.model.specs.Table.{row_of, source_of}
use Rattle.model.specs.Header.{ROW_BYTES, row_bytes}
use Rattle.model.specs.Refusal.{admission}
use Rattle.door_write.specs.Encode.{row_list}
use Rattle.door_write.specs.Promise.{row_bytes_again}
use Rattle.door_step.specs.Steps.{StepAnswer}
use Rattle.door_step.specs.Steps as step
use Rattle.door_step.specs.Steps.{stepped_at}
use Rattle.door_step.specs.Promise.{from_refused, from_row_lem, from_end}
use Rattle.stramashly.specs.Packed.{packed, pack_report, share_after, pack_step, step_put, row_answer, row_after}
use Rattle.stramashly.specs.Packed.{pack_result, refusal_number, report_number, step_number, share_put, row_put}
use Rattle.model.specs.Report.{told_answer}
use Rattle.door_step.specs.Steps.{step_result}

-- ---- the report's share is the struct's own; where there is no report, the number lent for it stays

pub report_share : (r : Report) (x : Float) → share_after (told.reported r) x ≡ r.share
unfolding share_after share_put told_answer
report_share r x = refl

pub no_pairs : (x : Float) → (pack_report told.no_pairs ≡ packed 18 0 0 0) × (share_after told.no_pairs x ≡ x)
unfolding pack_report pack_result report_number share_after share_put told_answer
no_pairs x = (refl, refl)

sixteen : (r : Row) (m : ℕ) → length (row_list r m) ≡ ROW_BYTES
unfolding row_list
sixteen r m = refl

-- ---- stepping through a table s, with a buffer that a row has room in

module _ (s : List ℕ) (i : ℕ) (out : List ℕ) (room : ROW_BYTES ≤ length out) where
  answer_is : (x : StepAnswer) → stepped_at s i ≡ x → (row_answer s i (length out) ≡ pack_step x) × (row_after s i out ≡ step_put x out)
  unfolding row_answer row_after
  answer_is x e = rw (le-leb ROW_BYTES (length out) room) (ap pack_step e, ap (λ (z : StepAnswer). step_put z out) e)

  -- what a fill refuses, 11 aside, gets that refusal at every place, and nothing is written
  pub row_refused : (k j : ℕ) → admission true s ≡ Refused k j → (row_answer s i (length out) ≡ packed 4 k j 0) × (row_after s i out ≡ out)
  unfolding pack_step pack_result step_number refusal_number step_put row_put step_result
  row_refused k j e = answer_is (step.Refused k j) (from_refused s k j e i)

  module _ (a n : ℕ) (e : admission true s ≡ Admitted a n) where
    -- row i: the next place is i + 1, the buffer begins with the row's own sixteen bytes, and the bytes after them stay
    pub row_given : (small : (k : ℕ) → get_or s k 0 < 256) → i < n
        → (row_answer s i (length out) ≡ packed 14 (i + 1) 0 0)
        × (take ROW_BYTES (row_after s i out) ≡ take ROW_BYTES (drop (ROW_BYTES * i) (row_bytes s)))
        × (drop ROW_BYTES (row_after s i out) ≡ drop ROW_BYTES out)
    unfolding pack_step pack_result step_number refusal_number step_put row_put step_result
    row_given small l =
        let x = answer_is (step.Row (row_of (row_bytes s) i) (record { 0 = source_of (row_bytes s) i }) (i + 1)) (from_row_lem s a n e i l) in
        let long = sixteen (row_of (row_bytes s) i) (source_of (row_bytes s) i) in (
          x.0,
          ap (take ROW_BYTES) x.1 ∙ take_at (row_list (row_of (row_bytes s) i) (source_of (row_bytes s) i)) (drop ROW_BYTES out) ROW_BYTES long ∙ row_bytes_again s small a n e i l,
          ap (drop ROW_BYTES) x.1 ∙ drop_at (row_list (row_of (row_bytes s) i) (source_of (row_bytes s) i)) (drop ROW_BYTES out) ROW_BYTES long,
        )

    -- the end at every further call, and nothing is written
    pub row_end : n ≤ i → (row_answer s i (length out) ≡ packed 15 i 0 0) × (row_after s i out ≡ out)
    unfolding pack_step pack_result step_number refusal_number step_put row_put step_result
    row_end l = answer_is (step.End i) (from_end s a n e i l)
