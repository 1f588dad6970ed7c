-- An answer as one number for C: code × 2^48 + a × 2^32 + b × 2^16 + c.
use Rattle.std.specs.Prelude.{Bool, true, false, not, cond, List, ◌++◌, ℕ, ◌+◌, ◌*◌, leb, eqb, length, drop, Float}
use Rattle.std.specs.declared.option.Option.{Option}
use Rattle.std.specs.declared.option.Option.TheVariants.{None, Some}
use Rattle.std.specs.declared.result.Result.{Result}
use Rattle.std.specs.declared.result.Result.TheVariants.{Ok, Err}
use Rattle.model.specs.declared.Refusal.{Refusal}
use Rattle.model.specs.declared.Counts.{Counts}
use Rattle.model.specs.declared.CheckAnswer.{CheckAnswer}
use Rattle.model.specs.declared.CheckAnswer.TheVariants as checked
use Rattle.model.specs.declared.FillAnswer.{FillAnswer}
use Rattle.model.specs.declared.FillAnswer.TheVariants as filled
use Rattle.model.specs.declared.Reason.{Reason}
use Rattle.model.specs.declared.Reason.TheVariants.{ProgramOrder, Chain}
use Rattle.model.specs.declared.DeriveAnswer.{DeriveAnswer}
use Rattle.model.specs.declared.DeriveAnswer.TheVariants as derived
use Rattle.door_pieces.specs.declared.RowPlace.{RowPlace}
use Rattle.door_pieces.specs.declared.RowPlace.TheVariants as place
use Rattle.model.specs.declared.ReportAnswer.{ReportAnswer}
use Rattle.model.specs.declared.ReportAnswer.TheVariants as reported
use Rattle.model.specs.Report.{Told, told_answer}
use Rattle.model.specs.declared.Admission.{Admission}
use Rattle.model.specs.Refusal.{admission_answer}
use Rattle.model.specs.Header.{ROW_BYTES}
use Rattle.door_write.specs.declared.Sizes.{Sizes}
use Rattle.door_write.specs.Answer.{WriteAnswer, write_result}
use Rattle.door_write.specs.Read.{ReadAnswer, read_result}
use Rattle.door_write.specs.Encode.{row_list}
use Rattle.door_step.specs.declared.Stepped.{Stepped}
use Rattle.door_step.specs.declared.Stepped.TheVariants as step
use Rattle.door_step.specs.Steps.{StepAnswer, stepped_at, step_result}

unfoldable pub packed : ℕ → ℕ → ℕ → ℕ → ℕ
packed code a b c = code * 281474976710656 + a * 4294967296 + b * 65536 + c

-- every answer's refusal has code 4: a is the number, b the row
unfoldable pub refusal_number : Refusal → ℕ
refusal_number r = packed 4 r.number r.row 0

-- an answer by its own codes, or the refusal
unfoldable pub pack_result : {A : Type 0} → (A → ℕ) → Result A Refusal → ℕ
pack_result number (Ok answer) = number answer
pack_result number (Err r) = refusal_number r

-- the codes: 0 race-free, 1 race, 2 overwritten, 3 cycle (a is its length)
unfoldable pub check_number : CheckAnswer → ℕ
check_number (checked.Cycle l) = packed 3 l 0 0
check_number (checked.Overwritten o) = packed 2 o.reader o.writer o.byte
check_number (checked.Race r) = packed 1 r.first r.second r.byte
check_number checked.RaceFree = packed 0 0 0 0

unfoldable pub pack_check : Result CheckAnswer Refusal → ℕ
pack_check answer = pack_result check_number answer

-- the codes: 1 race, as above; 5 none, 6 filled (a is the number of rows, which the caller hands in)
unfoldable pub fill_number : ℕ → FillAnswer → ℕ
fill_number rows (filled.Race r) = packed 1 r.first r.second r.byte
fill_number rows filled.None = packed 5 0 0 0
fill_number rows filled.Filled = packed 6 rows 0 0

unfoldable pub pack_fill : Result FillAnswer Refusal → ℕ → ℕ
pack_fill answer rows = pack_result (fill_number rows) answer

-- the word program order has a class set's place
abbrev pub PROGRAM_ORDER : ℕ
PROGRAM_ORDER = 16

unfoldable pub reason_of : ℕ → Reason
reason_of c = cond (eqb c PROGRAM_ORDER) ProgramOrder (Chain c)

-- the codes: 8 a derivation (a is the class set, b the number of steps), 9 not before
unfoldable pub derive_number : DeriveAnswer → ℕ
derive_number derived.ProgramOrder = packed 8 PROGRAM_ORDER 0 0
derive_number (derived.Chain s l) = packed 8 s l 0
derive_number derived.NotBefore = packed 9 0 0 0

unfoldable pub pack_derive : Result DeriveAnswer Refusal → ℕ
pack_derive answer = pack_result derive_number answer

-- the codes: 10 accepted, 11 not accepted
unfoldable pub accept_number : Bool → ℕ
accept_number true = packed 10 0 0 0
accept_number false = packed 11 0 0 0

unfoldable pub pack_accept : Result Bool Refusal → ℕ
pack_accept answer = pack_result accept_number answer

-- the codes: 2, 3 as a check's; 7 a report (a is the mutually-ordered pairs, b the ordered, c the racing), 18 no pair conflicts
unfoldable pub report_number : ReportAnswer → ℕ
report_number (reported.Cycle l) = packed 3 l 0 0
report_number (reported.Overwritten o) = packed 2 o.reader o.writer o.byte
report_number reported.NoPairs = packed 18 0 0 0
report_number (reported.Report r) = packed 7 r.mutuals r.ordered r.racing

unfoldable pub pack_report : Told → ℕ
pack_report told = pack_result report_number (told_answer told)

-- the number lent for the share: the report's own, where there is one
unfoldable pub share_put : Result ReportAnswer Refusal → Float → Float
share_put (Ok (reported.Report r)) x = r.share
share_put (Ok (reported.Cycle l)) x = x
share_put (Ok (reported.Overwritten o)) x = x
share_put (Ok reported.NoPairs) x = x
share_put (Err r) x = x

-- as the report leaves it
unfoldable pub share_after : Told → Float → Float
share_after told x = share_put (told_answer told) x

-- a switch, where a caller can hand in any number
abbrev pub is_on : ℕ → Bool
is_on switch = not (eqb switch 0)

-- the code: 12 written (a is the number of bytes)
unfoldable pub write_number : ℕ → ℕ
write_number m = packed 12 m 0 0

unfoldable pub pack_write : WriteAnswer → ℕ
pack_write answer = pack_result write_number (write_result answer)

-- the code: 19 read (a is 256 times the version and the number of agents, b the number of rows, c that of dependencies)
unfoldable pub read_number : Sizes → ℕ
read_number s = packed 19 (s.version * 256 + s.agents) s.rows s.dependencies

unfoldable pub pack_read : ReadAnswer → ℕ
pack_read answer = pack_result read_number (read_result answer)

-- the code: 13 opened (a is the number of rows, b that of agents)
unfoldable pub open_number : Counts → ℕ
open_number k = packed 13 k.rows k.agents 0

unfoldable pub pack_open : Admission → ℕ
pack_open admission = pack_result open_number (admission_answer admission)

-- the codes: 14 a row, 15 the end (a is the next place)
unfoldable pub step_number : Stepped → ℕ
step_number (step.Row e next) = packed 14 next 0 0
step_number (step.End next) = packed 15 next 0 0

unfoldable pub pack_step : StepAnswer → ℕ
pack_step answer = pack_result step_number (step_result answer)

-- the row's bytes at the front of the lent buffer; a refusal and the end leave it alone
unfoldable pub row_put : Result Stepped Refusal → List ℕ → List ℕ
row_put (Ok (step.Row e next)) out = row_list e.row e.source.0 ++ drop ROW_BYTES out
row_put (Ok (step.End next)) out = out
row_put (Err r) out = out

unfoldable pub step_put : StepAnswer → List ℕ → List ℕ
step_put answer out = row_put (step_result answer) out

-- a buffer that a row has no room in is refused, with 11, and left alone
unfoldable pub row_answer : List ℕ → ℕ → ℕ → ℕ
row_answer s i room = cond (leb ROW_BYTES room) (pack_step (stepped_at s i)) (packed 4 11 0 0)

unfoldable pub row_after : List ℕ → ℕ → List ℕ → List ℕ
row_after s i out = cond (leb ROW_BYTES (length out)) (step_put (stepped_at s i) out) out

-- the codes: 16 a row's place (a is its piece, 0 or 1, b the first of its sixteen bytes there), 17 no row
unfoldable pub place_number : RowPlace → ℕ
place_number (place.First at) = packed 16 0 at 0
place_number (place.Second at) = packed 16 1 at 0

unfoldable pub pack_place : Option RowPlace → ℕ
pack_place (Some row) = place_number row
pack_place None = packed 17 0 0 0
