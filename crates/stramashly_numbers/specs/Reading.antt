-- How a packed number is read, and that it is read back as what was packed. Assumes nothing.
use Rattle.std.specs.Prelude.{◌≡◌, refl, cond, ℕ, ◌+◌, ◌*◌, ◌/◌, ◌%◌, ◌<◌, length, eqb, Float, Bool, true, false}
use Rattle.std.specs.declared.option.Option.{Option}
use Rattle.std.specs.declared.option.Option.TheVariants.{None, Some}
use Rattle.std.proofs.Common.{ap, arith, ne_eqb}
use Rattle.std.specs.declared.result.Result.{Result}
use Rattle.std.specs.declared.result.Result.TheVariants.{Ok, Err}
use Rattle.model.specs.declared.Refusal.{Refusal}
use Rattle.model.specs.Refusal.{refusal, admission_answer}
use Rattle.model.specs.declared.CheckAnswer.{CheckAnswer}
use Rattle.model.specs.declared.CheckAnswer.TheVariants as said
use Rattle.model.specs.declared.FillAnswer.{FillAnswer}
use Rattle.model.specs.declared.FillAnswer.TheVariants as filled
use Rattle.model.specs.declared.DeriveAnswer.{DeriveAnswer}
use Rattle.model.specs.declared.DeriveAnswer.TheVariants as derived
use Rattle.model.specs.declared.Report.{Report}
use Rattle.model.specs.Report.{Told, told_answer}
use Rattle.model.specs.Report as told
use Rattle.model.specs.Check.{Verdict, check_answer}
use Rattle.model.specs.Fill.{Outcome, fill_answer}
use Rattle.model.specs.Reason.{Judged, Derived, accept_answer, derive_answer}
use Rattle.model.specs.declared.Admission.{Admission}
use Rattle.model.specs.declared.Admission.TheVariants as admit
use Rattle.door_pieces.specs.declared.RowPlace.{RowPlace}
use Rattle.door_pieces.specs.declared.RowPlace.TheVariants as place
use Rattle.door_write.specs.Answer.{WriteAnswer, write_result}
use Rattle.door_write.specs.Answer as written
use Rattle.door_write.specs.Read.{ReadAnswer, read_result}
use Rattle.door_write.specs.Read as values
use Rattle.door_step.specs.Steps.{StepAnswer, step_result}
use Rattle.door_step.specs.Steps as step
use Rattle.model_promises.specs.Bounds.{SMALL, SmallVerdict, SmallOutcome, SmallReport, SmallDerived, SmallJudged}
use Rattle.stramashly.specs.Packed.{packed, PROGRAM_ORDER, pack_check, pack_fill, pack_derive, pack_accept, pack_report, share_after}
use Rattle.stramashly.specs.Packed.{pack_result, refusal_number, check_number, fill_number, derive_number, accept_number, report_number, share_put}
use Rattle.stramashly.specs.Packed.{write_number, read_number, open_number, step_number, place_number}
use Rattle.stramashly.specs.Packed.{pack_write, pack_read, pack_open, pack_step, pack_place}

-- ---- definitions: the parts of a number, as the header's macros take them

abbrev pub CODE : ℕ → ℕ
CODE r = r / 281474976710656

abbrev pub A : ℕ → ℕ
A r = r / 4294967296 % 65536

abbrev pub B : ℕ → ℕ
B r = r / 65536 % 65536

abbrev pub C : ℕ → ℕ
C r = r % 65536

pub reads_back : (code a b c : ℕ) → a < SMALL → b < SMALL → c < SMALL
    → (CODE (packed code a b c) ≡ code) × (A (packed code a b c) ≡ a) × (B (packed code a b c) ≡ b) × (C (packed code a b c) ≡ c)
unfolding packed
reads_back code a b c p q r = (omega arith, omega arith, omega arith, omega arith)

-- ---- a check's number

-- the answer by code and parts
unfoldable pub check_by : ℕ → ℕ → ℕ → ℕ → Result CheckAnswer Refusal
check_by k a b c = cond (eqb k 0) (Ok said.RaceFree)
    (cond (eqb k 1) (Ok (said.Race (record { first = a; second = b; byte = c })))
    (cond (eqb k 2) (Ok (said.Overwritten (record { reader = a; writer = b; byte = c }))) (cond (eqb k 3) (Ok (said.Cycle a)) (Err (refusal a b)))))

abbrev pub read_check : ℕ → Result CheckAnswer Refusal
read_check r = check_by (CODE r) (A r) (B r) (C r)

pub check_back : (v : Verdict) → SmallVerdict v → read_check (pack_check (check_answer v)) ≡ check_answer v
unfolding check_by pack_check pack_result check_number refusal_number check_answer
check_back (Verdict.refused n i) h = let p = reads_back 4 n i 0 h.0 h.1 (omega arith) in rw (p.0, p.1, p.2) refl
check_back (Verdict.cyclic rows edges) h = let p = reads_back 3 (length rows) 0 0 h (omega arith) (omega arith) in rw (p.0, p.1) refl
check_back (Verdict.overwritten y z b) h = let p = reads_back 2 y z b h.0 h.1 h.2 in rw (p.0, p.1, p.2, p.3) refl
check_back (Verdict.race x y b) h = let p = reads_back 1 x y b h.0 h.1 h.2 in rw (p.0, p.1, p.2, p.3) refl
check_back Verdict.race_free h = let p = reads_back 0 0 0 0 (omega arith) (omega arith) (omega arith) in rw p.0 refl

-- ---- a fill's number

unfoldable pub fill_by : ℕ → ℕ → ℕ → ℕ → Result FillAnswer Refusal
fill_by k a b c = cond (eqb k 1) (Ok (filled.Race (record { first = a; second = b; byte = c })))
    (cond (eqb k 5) (Ok filled.None) (cond (eqb k 6) (Ok filled.Filled) (Err (refusal a b))))

abbrev pub read_fill : ℕ → Result FillAnswer Refusal
read_fill r = fill_by (CODE r) (A r) (B r) (C r)

pub fill_back : (rows : ℕ) (o : Outcome) → SmallOutcome rows o → read_fill (pack_fill (fill_answer o) rows) ≡ fill_answer o
unfolding fill_by pack_fill pack_result fill_number refusal_number fill_answer
fill_back rows (Outcome.refused n i) h = let p = reads_back 4 n i 0 h.0 h.1 (omega arith) in rw (p.0, p.1, p.2) refl
fill_back rows (Outcome.race x y b) h = let p = reads_back 1 x y b h.0 h.1 h.2 in rw (p.0, p.1, p.2, p.3) refl
fill_back rows Outcome.none h = let p = reads_back 5 0 0 0 (omega arith) (omega arith) (omega arith) in rw p.0 refl
fill_back rows (Outcome.filled l) h = let p = reads_back 6 rows 0 0 h (omega arith) (omega arith) in rw p.0 refl

-- ---- a derivation's number

unfoldable pub derive_by : ℕ → ℕ → ℕ → Result DeriveAnswer Refusal
derive_by k a b =
    cond (eqb k 8) (cond (eqb a PROGRAM_ORDER) (Ok derived.ProgramOrder) (Ok (derived.Chain a b))) (cond (eqb k 9) (Ok derived.NotBefore) (Err (refusal a b)))

abbrev pub read_derive : ℕ → Result DeriveAnswer Refusal
read_derive r = derive_by (CODE r) (A r) (B r)

pub derive_back : (d : Derived) → SmallDerived d → read_derive (pack_derive (derive_answer d)) ≡ derive_answer d
unfolding derive_by pack_derive pack_result derive_number refusal_number derive_answer
derive_back (Derived.refused n i) h = let p = reads_back 4 n i 0 h.0 h.1 (omega arith) in rw (p.0, p.1, p.2) refl
derive_back Derived.word h = let p = reads_back 8 PROGRAM_ORDER 0 0 (omega arith) (omega arith) (omega arith) in rw (p.0, p.1) refl
derive_back (Derived.chained c l) h =
    let m = h.0 in
    let p = reads_back 8 c (length l) 0 (omega arith) h.1 (omega arith) in
    rw (p.0, p.1, p.2, ne_eqb c PROGRAM_ORDER (λ e. omega arith)) refl
derive_back Derived.not_before h = let p = reads_back 9 0 0 0 (omega arith) (omega arith) (omega arith) in rw p.0 refl

-- ---- a reader's number

unfoldable pub accept_by : ℕ → ℕ → ℕ → Result Bool Refusal
accept_by k a b = cond (eqb k 10) (Ok true) (cond (eqb k 11) (Ok false) (Err (refusal a b)))

abbrev pub read_accept : ℕ → Result Bool Refusal
read_accept r = accept_by (CODE r) (A r) (B r)

pub accept_back : (j : Judged) → SmallJudged j → read_accept (pack_accept (accept_answer j)) ≡ accept_answer j
unfolding accept_by pack_accept pack_result accept_number refusal_number accept_answer
accept_back (Judged.refused n i) h = let p = reads_back 4 n i 0 h.0 h.1 (omega arith) in rw (p.0, p.1, p.2) refl
accept_back Judged.accepted h = let p = reads_back 10 0 0 0 (omega arith) (omega arith) (omega arith) in rw p.0 refl
accept_back Judged.not_accepted h = let p = reads_back 11 0 0 0 (omega arith) (omega arith) (omega arith) in rw p.0 refl

-- ---- a report's number, with the share that was handed out beside it

-- the report of three counts and a share
unfoldable pub report_by : ℕ → ℕ → ℕ → Float → Told
report_by a b c x = told.reported (record { conflicting = a + b + c; mutuals = a; ordered = b; racing = c; share = x })

unfoldable pub tell_by : ℕ → ℕ → ℕ → ℕ → Float → Told
tell_by k a b c x = cond (eqb k 7) (report_by a b c x)
    (cond (eqb k 18) told.no_pairs (cond (eqb k 2) (told.overwritten a b c) (cond (eqb k 3) (told.cyclic a) (told.refused a b))))

abbrev pub read_report : ℕ → Float → Told
read_report r x = tell_by (CODE r) (A r) (B r) (C r) x

made : (r : Report) (d : ℕ) → d ≡ r.conflicting
    → record { conflicting = d; mutuals = r.mutuals; ordered = r.ordered; racing = r.racing; share = r.share } ≡ r
made r d e = rw e refl

pub report_back : (a : Told) (x : Float) → SmallReport a → read_report (pack_report a) (share_after a x) ≡ a
unfolding tell_by report_by pack_report pack_result report_number refusal_number told_answer share_after share_put
report_back (told.refused n i) x h = let p = reads_back 4 n i 0 h.0 h.1 (omega arith) in rw (p.0, p.1, p.2) refl
report_back (told.cyclic k) x h = let p = reads_back 3 k 0 0 h (omega arith) (omega arith) in rw (p.0, p.1) refl
report_back (told.overwritten y z b) x h = let p = reads_back 2 y z b h.0 h.1 h.2 in rw (p.0, p.1, p.2, p.3) refl
report_back told.no_pairs x h = let p = reads_back 18 0 0 0 (omega arith) (omega arith) (omega arith) in rw p.0 refl
report_back (told.reported r) x h =
    let p = reads_back 7 r.mutuals r.ordered r.racing h.2 h.3 h.4 in
    rw (p.0, p.1, p.2, p.3) (ap told.reported (made r (r.mutuals + r.ordered + r.racing) h.1))

-- ---- the number of an opened table

unfoldable pub open_by : ℕ → ℕ → ℕ → Admission
open_by k a b = cond (eqb k 13) (admit.Admitted b a) (admit.Refused a b)

abbrev pub read_open : ℕ → Admission
read_open r = open_by (CODE r) (A r) (B r)

abbrev pub SmallAdmission : Admission → Type 0
SmallAdmission (admit.Refused n i) = (n < SMALL) × (i < SMALL)
SmallAdmission (admit.Admitted a n) = (a < SMALL) × (n < SMALL)

pub open_back : (x : Admission) → SmallAdmission x → read_open (pack_open x) ≡ x
unfolding open_by pack_open pack_result open_number refusal_number admission_answer
open_back (admit.Refused n i) h = let p = reads_back 4 n i 0 h.0 h.1 (omega arith) in rw (p.0, p.1, p.2) refl
open_back (admit.Admitted a n) h = let p = reads_back 13 n a 0 h.1 h.0 (omega arith) in rw (p.0, p.1, p.2) refl

-- ---- a step's number: the row itself stands in the buffer

pub data RowSaid : Type 0 where
  refused : ℕ → ℕ → RowSaid
  row : ℕ → RowSaid
  end : ℕ → RowSaid

-- what of a step's answer is in the number
unfoldable pub said_of : StepAnswer → RowSaid
said_of (step.Refused n i) = RowSaid.refused n i
said_of (step.Row r s next) = RowSaid.row next
said_of (step.End next) = RowSaid.end next

unfoldable pub row_by : ℕ → ℕ → ℕ → RowSaid
row_by k a b = cond (eqb k 14) (RowSaid.row a) (cond (eqb k 15) (RowSaid.end a) (RowSaid.refused a b))

abbrev pub read_row : ℕ → RowSaid
read_row r = row_by (CODE r) (A r) (B r)

abbrev pub SmallStep : StepAnswer → Type 0
SmallStep (step.Refused n i) = (n < SMALL) × (i < SMALL)
SmallStep (step.Row r s next) = next < SMALL
SmallStep (step.End next) = next < SMALL

pub row_back : (x : StepAnswer) → SmallStep x → read_row (pack_step x) ≡ said_of x
unfolding row_by pack_step pack_result step_number refusal_number step_result said_of
row_back (step.Refused n i) h = let p = reads_back 4 n i 0 h.0 h.1 (omega arith) in rw (p.0, p.1, p.2) refl
row_back (step.Row r s next) h = let p = reads_back 14 next 0 0 h (omega arith) (omega arith) in rw (p.0, p.1) refl
row_back (step.End next) h = let p = reads_back 15 next 0 0 h (omega arith) (omega arith) in rw (p.0, p.1) refl

-- ---- a writer's number

unfoldable pub write_by : ℕ → ℕ → ℕ → WriteAnswer
write_by k a b = cond (eqb k 12) (written.Written a) (written.Refused a b)

abbrev pub read_write : ℕ → WriteAnswer
read_write r = write_by (CODE r) (A r) (B r)

abbrev pub SmallWrite : WriteAnswer → Type 0
SmallWrite (written.Refused n i) = (n < SMALL) × (i < SMALL)
SmallWrite (written.Written m) = m < SMALL

pub write_back : (x : WriteAnswer) → SmallWrite x → read_write (pack_write x) ≡ x
unfolding write_by pack_write pack_result write_number refusal_number write_result
write_back (written.Refused n i) h = let p = reads_back 4 n i 0 h.0 h.1 (omega arith) in rw (p.0, p.1, p.2) refl
write_back (written.Written m) h = let p = reads_back 12 m 0 0 h (omega arith) (omega arith) in rw (p.0, p.1) refl

-- ---- a reader's number: the version and the agents share a part

unfoldable pub values_by : ℕ → ℕ → ℕ → ℕ → ReadAnswer
values_by k a b c = cond (eqb k 19) (values.Read (a / 256) (a % 256) b c) (values.Refused a b)

abbrev pub read_values : ℕ → ReadAnswer
read_values r = values_by (CODE r) (A r) (B r) (C r)

abbrev pub SmallValues : ReadAnswer → Type 0
SmallValues (values.Refused n i) = (n < SMALL) × (i < SMALL)
SmallValues (values.Read version agents rows n) = (version < 256) × (agents < 256) × (rows < SMALL) × (n < SMALL)

pub values_back : (x : ReadAnswer) → SmallValues x → read_values (pack_read x) ≡ x
unfolding values_by pack_read pack_result read_number refusal_number read_result
values_back (values.Refused n i) h = let p = reads_back 4 n i 0 h.0 h.1 (omega arith) in rw (p.0, p.1, p.2) refl
values_back (values.Read version agents rows n) h =
    let v = h.0 in
    let a = h.1 in
    let p = reads_back 19 (version * 256 + agents) rows n (omega arith) h.2 h.3 in
    let q : (version * 256 + agents) / 256 ≡ version = omega arith in
    let r : (version * 256 + agents) % 256 ≡ agents = omega arith in
    rw (p.0, p.1, p.2, p.3, q, r) refl

-- ---- the number of a row's place

unfoldable pub place_by : ℕ → ℕ → ℕ → Option RowPlace
place_by k a b = cond (eqb k 16) (cond (eqb a 0) (Some (place.First b)) (Some (place.Second b))) None

abbrev pub read_place : ℕ → Option RowPlace
read_place r = place_by (CODE r) (A r) (B r)

abbrev pub SmallPlace : Option RowPlace → Type 0
SmallPlace (Some (place.First at)) = at < SMALL
SmallPlace (Some (place.Second at)) = at < SMALL
SmallPlace None = Unit

pub place_back : (x : Option RowPlace) → SmallPlace x → read_place (pack_place x) ≡ x
unfolding place_by pack_place place_number
place_back (Some (place.First at)) h = let p = reads_back 16 0 at 0 (omega arith) h (omega arith) in rw (p.0, p.1, p.2) refl
place_back (Some (place.Second at)) h = let p = reads_back 16 1 at 0 (omega arith) h (omega arith) in rw (p.0, p.1, p.2) refl
place_back None h = let p = reads_back 17 0 0 0 (omega arith) (omega arith) (omega arith) in rw p.0 refl
