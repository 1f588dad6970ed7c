-- A table in two pieces: the first an ordinary table f, the second only rows s, to be added after its rows. What the two are joined to,
-- what they are refused for, and what is answered of them: that of the joined table.
use Rattle.std.specs.Prelude.{Bool, cond, List, [], ◌∷◌, ◌++◌, ℕ, ◌+◌, ◌-◌, ◌*◌, ◌/◌, ◌%◌, length, get_or, take, drop, ltb, leb, eqb}
use Rattle.std.specs.declared.option.Option.{Option}
use Rattle.std.specs.declared.option.Option.TheVariants.{None, Some}
use Rattle.finite.specs.Lists.{tabulate}
use Rattle.model.specs.declared.Admission.{Admission}
use Rattle.model.specs.declared.Admission.TheVariants.{Refused}
use Rattle.model.specs.declared.Reason.{Reason}
use Rattle.model.specs.Report.{Told}
use Rattle.model.specs.Report as told
use Rattle.model.specs.Limits.{ROWS, CYCLE, SOURCES, STEPS}
use Rattle.model.specs.Header.{HEADER, ROW_BYTES, version_at, agents_at, rows_at, zero_at, rows_begin, row_bytes, dependency_bytes}
use Rattle.model.specs.Refusal.{buffers_fit, hosts_fault, admission}
use Rattle.model.specs.Check as verdict
use Rattle.model.specs.Fill as outcome
use Rattle.model.specs.Reason as reason
use Rattle.model.specs.Report.{report}
use Rattle.model.specs.Refusal.{shape_fault}
use Rattle.door_pieces.specs.declared.RowPlace.{RowPlace}
use Rattle.door_pieces.specs.declared.RowPlace.TheVariants as place

-- ---- the refusals of a pair

-- how many rows both have
unfoldable pub rows_both : List ℕ → List ℕ → ℕ
rows_both f s = rows_at f + length s / ROW_BYTES

-- the same where there are not too many, else 0
unfoldable pub count_both : List ℕ → List ℕ → ℕ
count_both f s = cond (leb (rows_both f s) ROWS) (rows_both f s) 0

-- 1 to 4 of the first piece; then 40: the second's size isn't a multiple of 16; then 3: the rows of both together are over the limit
unfoldable pub pieces_fault : List ℕ → List ℕ → ℕ
pieces_fault f s =
    cond (eqb (shape_fault f) 0) (cond (eqb (length s % ROW_BYTES) 0) (cond (leb (rows_both f s) ROWS) 0 3) 40) (shape_fault f)

-- ---- the joined table

-- the eight bytes before the places: the count of bytes that follow and the count of rows are made anew. No table is so long that the
-- first of them would be no byte
unfoldable pub header_of : List ℕ → List ℕ → List ℕ
header_of f s =
    let count = length f + length s - 4 in
    count / 16777216 ∷ count / 65536 % 256 ∷ count / 256 % 256 ∷ count % 256 ∷ version_at f ∷ agents_at f ∷ rows_both f s ∷ zero_at f ∷ []

unfoldable pub place_bytes : List ℕ → List ℕ
place_bytes f = take (rows_begin f - HEADER) (drop HEADER f)

-- the first piece's places and rows, then the second's rows, then the first's dependencies
unfoldable pub joined : List ℕ → List ℕ → List ℕ
joined f s = header_of f s ++ (place_bytes f ++ (row_bytes f ++ (s ++ dependency_bytes f)))

-- ---- what is answered of a pair: its own refusals, else what is answered of the joined table

unfoldable pub of_both : {A : Type 0} → (ℕ → ℕ → A) → (List ℕ → A) → List ℕ → List ℕ → A
of_both refused one f s = cond (eqb (pieces_fault f s) 0) (one (joined f s)) (refused (pieces_fault f s) 0)

-- from 16 on everything is tested of the joined table, whose 1 to 4 pass (law `joined_shape`)
unfoldable pub admission_both : Bool → List ℕ → List ℕ → Admission
admission_both blanks f s = of_both Refused (admission blanks) f s

-- refusal 11, by the lengths of the lent buffers, comes first
unfoldable pub check_both : Bool → List ℕ → List ℕ → ℕ → ℕ → verdict.Verdict
check_both chains f s work buffer =
    cond (buffers_fit CYCLE work buffer) (of_both verdict.refused (λ t. verdict.check chains t work buffer) f s) (verdict.refused 11 0)

unfoldable pub fill_both : Bool → List ℕ → List ℕ → ℕ → ℕ → outcome.Outcome
fill_both chains f s work buffer =
    cond (buffers_fit SOURCES work buffer) (of_both outcome.refused (λ t. outcome.fill chains t work buffer) f s) (outcome.refused 11 0)

-- its buffers are left as a check leaves them
unfoldable pub report_both : Bool → List ℕ → List ℕ → ℕ → ℕ → Told
report_both chains f s work buffer =
    cond (buffers_fit CYCLE work buffer) (of_both told.refused (λ t. report chains t work buffer) f s) (told.refused 11 0)

unfoldable pub derive_both : List ℕ → List ℕ → ℕ → ℕ → ℕ → ℕ → reason.Derived
derive_both f s m k work buffer =
    cond (buffers_fit STEPS work buffer) (of_both reason.refused (λ t. reason.derive t m k work buffer) f s) (reason.refused 11 0)

-- the reader of derivations takes no buffers
unfoldable pub judge_both : List ℕ → List ℕ → ℕ → ℕ → Reason → List ℕ → reason.Judged
judge_both f s m k why steps = of_both reason.refused (λ t. reason.judge t m k why steps) f s

-- ---- row n

-- every refusal before 5: with the pair's own, 16 to 18 of the joined table
unfoldable pub early_fault : List ℕ → List ℕ → ℕ
early_fault f s = cond (eqb (pieces_fault f s) 0) (hosts_fault (joined f s)) (pieces_fault f s)

-- its sixteen bytes, from the piece that holds it; empty where neither does. Pairs refused before 5 hold no rows
unfoldable pub row_part : List ℕ → List ℕ → ℕ → List ℕ
row_part f s n =
    cond (eqb (early_fault f s) 0)
    (cond (ltb n (rows_at f))
    (take ROW_BYTES (drop (rows_begin f + ROW_BYTES * n) f))
    (cond (ltb n (rows_both f s)) (take ROW_BYTES (drop (ROW_BYTES * (n - rows_at f)) s)) []))
    []

-- where those bytes begin, for a caller that can be handed no part of a slice
unfoldable pub row_place : List ℕ → List ℕ → ℕ → Option RowPlace
row_place f s n =
    cond (eqb (early_fault f s) 0)
    (cond (ltb n (rows_at f))
    (Some (place.First (rows_begin f + ROW_BYTES * n)))
    (cond (ltb n (rows_both f s)) (Some (place.Second (ROW_BYTES * (n - rows_at f)))) None))
    None

-- the sixteen bytes at a place (law `part_at`: they are the row's part)
unfoldable pub part_at : List ℕ → List ℕ → Option RowPlace → List ℕ
part_at f s (Some (place.First at)) = take ROW_BYTES (drop at f)
part_at f s (Some (place.Second at)) = take ROW_BYTES (drop at s)
part_at f s None = []

-- ---- the rows of both, as the engine takes them

-- the bytes of all rows that there may be
abbrev pub AREA : ℕ
AREA = 2048

-- the bytes x, cut or filled up with zeros to so many
unfoldable pub area_of : List ℕ → List ℕ
area_of x = tabulate (λ k. get_or x k 0) AREA
