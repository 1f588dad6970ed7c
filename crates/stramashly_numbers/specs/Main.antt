-- What the number that C gets says, to be read like crates/model_promises/specs/Main.antt: each proof names a theorem
-- of a page beside this one. The contract of a C function is an equation `r ≡ pack… (…)`
-- (crates/stramashly/specs/Packed.antt).
--
-- `CODE`, `A`, `B` and `C` (Reading.antt) are the header's macros STRAMASHLY_CODE, _A, _B and _C. `read… r` is the
-- answer that a number r is read as.
use Rattle.std.specs.Prelude.{◌≡◌, Bool, true, List, ◌↔◌, ℕ, ◌+◌, ◌*◌, ◌≤◌, ◌<◌, length, take, drop, Float}
use Rattle.model.specs.declared.Admission.TheVariants.{Admitted, Refused}
use Rattle.model.specs.declared.{Reason.Reason, Report.Report}
use Rattle.model.specs.Report.{Told}
use Rattle.model.specs.Header.{ROW_BYTES, rows_at, row_bytes}
use Rattle.model.specs.Refusal.{admission}
use Rattle.model.specs.Check.{Verdict, check, check_answer}
use Rattle.model.specs.Fill.{Outcome, fill, fill_answer}
use Rattle.model.specs.Reason.{derive, derive_answer, judge, accept_answer}
use Rattle.model.specs.Report.{report}
use Rattle.door_pieces.specs.Pieces.{count_both, check_both, fill_both, report_both, derive_both, judge_both, row_place}
use Rattle.door_write.specs.Parts.{parts_answer}
use Rattle.door_write.specs.Read.{read_answer}
use Rattle.model_promises.specs.Terms.{Bytes}
use Rattle.model_promises.specs.Main.{CheckMeans, FillMeans}
use Rattle.stramashly.specs.Packed.{packed, pack_check, pack_fill, pack_derive, pack_accept, pack_report, share_after}
use Rattle.stramashly.specs.Packed.{pack_open, pack_write, pack_read, pack_place, row_answer, row_after}
use Rattle.stramashly_numbers.specs.Reading.{CODE, A, B, C, read_check, read_fill, read_derive, read_accept, read_report}
use Rattle.stramashly_numbers.specs.Reading.{read_open, read_row, read_write, read_values, read_place}
use Rattle.stramashly_numbers.specs.RowNumbers.{row_said}
use Rattle.stramashly_numbers.specs as beside

-- ==== A number has one reading

-- a code and three parts below 65536 are read back from the number that they are packed in
pub packed_reads : (code a b c : ℕ) → a < 65536 → b < 65536 → c < 65536 → let r = packed code a b c in
    (CODE r ≡ code) × (A r ≡ a) × (B r ≡ b) × (C r ≡ c)
packed_reads = beside.Reading.reads_back

-- each function's number is read as its answer, so that no two answers have one number
pub check_reads : (chains : Bool) (s : List ℕ) (work buffer : ℕ) → let a = check_answer (check chains s work buffer) in
    read_check (pack_check a) ≡ a
check_reads = beside.Given.check_reads

pub fill_reads : (chains : Bool) (s : List ℕ) (work buffer : ℕ) → let a = fill_answer (fill chains s work buffer) in
    read_fill (pack_fill a (rows_at s)) ≡ a
fill_reads = beside.Given.fill_reads

pub derive_reads : (s : List ℕ) (m k work buffer : ℕ) → let a = derive_answer (derive s m k work buffer) in
    read_derive (pack_derive a) ≡ a
derive_reads = beside.Given.derive_reads

pub accept_reads : (s : List ℕ) (m k : ℕ) (r : Reason) (l : List ℕ) → let a = accept_answer (judge s m k r l) in
    read_accept (pack_accept a) ≡ a
accept_reads = beside.Given.accept_reads

-- a report is read from the number and the share that was handed out; x is what the share's place held before
pub report_reads : (chains : Bool) (s : List ℕ) (work buffer : ℕ) (x : Float) → let a = report chains s work buffer in
    read_report (pack_report a) (share_after a x) ≡ a
report_reads = beside.Given.report_reads

-- the functions about rows and bytes. Of a step the number has all but the row, which is in the buffer (row-given)
pub open_reads : (s : List ℕ) → read_open (pack_open (admission true s)) ≡ admission true s
open_reads = beside.RowNumbers.open_reads

pub row_reads : (s : List ℕ) (i room : ℕ) → i < 65536 → read_row (row_answer s i room) ≡ row_said s i room
row_reads = beside.RowNumbers.row_reads

pub row2_reads : (f s : List ℕ) (n : ℕ) → read_place (pack_place (row_place f s n)) ≡ row_place f s n
row2_reads = beside.RowNumbers.row2_reads

pub write_reads : (version : ℕ) (places rows dependencies : List ℕ) (room : ℕ)
    → let a = parts_answer version places rows dependencies room in read_write (pack_write a) ≡ a
write_reads = beside.RowNumbers.write_reads

pub read_reads : (s : List ℕ) (places rows dependencies : ℕ)
    → let a = read_answer s places rows dependencies in read_values (pack_read a) ≡ a
read_reads = beside.RowNumbers.read_reads

-- the same of a table in two pieces, f and s
pub check2_reads : (chains : Bool) (f s : List ℕ) (work buffer : ℕ)
    → let a = check_answer (check_both chains f s work buffer) in read_check (pack_check a) ≡ a
check2_reads = beside.Given.check2_reads

pub fill2_reads : (chains : Bool) (f s : List ℕ) (work buffer : ℕ)
    → let a = fill_answer (fill_both chains f s work buffer) in read_fill (pack_fill a (count_both f s)) ≡ a
fill2_reads = beside.Given.fill2_reads

pub report2_reads : (chains : Bool) (f s : List ℕ) (work buffer : ℕ) (x : Float)
    → let a = report_both chains f s work buffer in read_report (pack_report a) (share_after a x) ≡ a
report2_reads = beside.Given.report2_reads

pub derive2_reads : (f s : List ℕ) (m k work buffer : ℕ)
    → let a = derive_answer (derive_both f s m k work buffer) in read_derive (pack_derive a) ≡ a
derive2_reads = beside.Given.derive2_reads

pub accept2_reads : (f s : List ℕ) (m k : ℕ) (r : Reason) (l : List ℕ)
    → let a = accept_answer (judge_both f s m k r l) in read_accept (pack_accept a) ≡ a
accept2_reads = beside.Given.accept2_reads

-- ==== A report's share, and a row's bytes

-- the share that C gets is the report's own; where there is no report, its place stays as it was, x
pub report_share : (r : Report) (x : Float) → share_after (Told.reported r) x ≡ r.share
report_share = beside.Rows.report_share

pub no_pairs : (x : Float) → (pack_report Told.no_pairs ≡ packed 18 0 0 0) × (share_after Told.no_pairs x ≡ x)
no_pairs = beside.Rows.no_pairs

-- steps through a table s, with a buffer `out` that has room for a row
module _ (s : List ℕ) (i : ℕ) (out : List ℕ) (room : ROW_BYTES ≤ length out) where
  -- what a fill refuses, short buffers aside, gets that refusal at every place, and nothing is written
  pub row_refused : (k j : ℕ) → admission true s ≡ Refused k j
      → (row_answer s i (length out) ≡ packed 4 k j 0) × (row_after s i out ≡ out)
  row_refused = beside.Rows.row_refused s i out room

  module _ (a n : ℕ) (e : admission true s ≡ Admitted a n) where
    -- row i is its own sixteen bytes as they stand in the table, the next place is i + 1, and later bytes stay
    pub row_given : Bytes s → i < n
        → (row_answer s i (length out) ≡ packed 14 (i + 1) 0 0)
        × (take ROW_BYTES (row_after s i out) ≡ take ROW_BYTES (drop (ROW_BYTES * i) (row_bytes s)))
        × (drop ROW_BYTES (row_after s i out) ≡ drop ROW_BYTES out)
    row_given = beside.Rows.row_given s i out room a n e

    -- past the rows there is the end, at every further call, and nothing is written
    pub row_end : n ≤ i → (row_answer s i (length out) ≡ packed 15 i 0 0) × (row_after s i out ≡ out)
    row_end = beside.Rows.row_end s i out room a n e

-- ==== What the number of stramashly_check says, exactly

module _ (chains : Bool) (s : List ℕ) (work buffer : ℕ) where
  abbrev r : ℕ
  r = pack_check (check_answer (check chains s work buffer))

  abbrev Means : Verdict → Type 0
  Means = CheckMeans chains s work buffer

  pub check_0 : (CODE r ≡ 0) ↔ Means Verdict.race_free
  check_0 = beside.Given.check_0 chains s work buffer

  pub check_1 : (x y b : ℕ) → ((CODE r ≡ 1) × (A r ≡ x) × (B r ≡ y) × (C r ≡ b)) ↔ Means (Verdict.race x y b)
  check_1 = beside.Given.check_1 chains s work buffer

  pub check_2 : (y z b : ℕ) → ((CODE r ≡ 2) × (A r ≡ y) × (B r ≡ z) × (C r ≡ b)) ↔ Means (Verdict.overwritten y z b)
  check_2 = beside.Given.check_2 chains s work buffer

  pub check_3 : (k : ℕ) → ((CODE r ≡ 3) × (A r ≡ k))
      ↔ ((rows : List ℕ) × (edges : List ℕ) × Means (Verdict.cyclic rows edges) × (length rows ≡ k))
  check_3 = beside.Given.check_3 chains s work buffer

  pub check_4 : (n i : ℕ) → ((CODE r ≡ 4) × (A r ≡ n) × (B r ≡ i)) ↔ Means (Verdict.refused n i)
  check_4 = beside.Given.check_4 chains s work buffer

-- ==== What the number of stramashly_fill says, exactly

module _ (chains : Bool) (s : List ℕ) (bytes : Bytes s) (work buffer : ℕ) where
  abbrev f : ℕ
  f = pack_fill (fill_answer (fill chains s work buffer)) (rows_at s)

  abbrev FMeans : Outcome → Type 0
  FMeans = FillMeans chains s work buffer

  pub fill_1 : (x y b : ℕ) → ((CODE f ≡ 1) × (A f ≡ x) × (B f ≡ y) × (C f ≡ b)) ↔ FMeans (Outcome.race x y b)
  fill_1 = beside.Given.fill_1 chains s bytes work buffer

  pub fill_4 : (n i : ℕ) → ((CODE f ≡ 4) × (A f ≡ n) × (B f ≡ i)) ↔ FMeans (Outcome.refused n i)
  fill_4 = beside.Given.fill_4 chains s bytes work buffer

  pub fill_5 : (CODE f ≡ 5) ↔ FMeans Outcome.none
  fill_5 = beside.Given.fill_5 chains s bytes work buffer

  pub fill_6 : ((CODE f ≡ 6) × (A f ≡ rows_at s)) ↔ ((l : List ℕ) × FMeans (Outcome.filled l))
  fill_6 = beside.Given.fill_6 chains s bytes work buffer
