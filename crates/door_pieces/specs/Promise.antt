-- What is promised of a table in two pieces, in the words of docs/RULES.md: a page to read beside Pieces.antt. Assumes nothing.
use Rattle.std.specs.Prelude.{◌≡◌, Bool, true, false, cond, List, [], ◌++◌, ℕ, ◌+◌, ◌-◌, ◌*◌, ◌/◌, ◌%◌, ◌≤◌, ◌<◌, length, take, drop}
use Rattle.std.specs.declared.option.Option.TheVariants.{None, Some}
use Rattle.std.proofs.Math.Path.{refl}
use Rattle.std.proofs.Common.{sym, ◌∙◌}
use borrow.Author.Tests.{ne_eqb, le-leb, lt-leb}
use Rattle.model.specs.declared.Reason.{Reason}
use Rattle.model.specs.Limits.{ROWS, CYCLE, SOURCES, STEPS}
use Rattle.model.specs.Header.{ROW_BYTES, version_at, agents_at, rows_at, rows_begin, places_of, row_bytes, dependency_bytes}
use Rattle.model.specs.Refusal.{buffers_fit}
use Rattle.model.specs.Check.{check}
use Rattle.model.specs.Fill.{fill}
use Rattle.model.specs.Report.{report}
use Rattle.model.specs.Reason.{derive, judge}
use Rattle.model.specs.Refusal.{shape_fault}
use Rattle.door_pieces.specs.Pieces.{rows_both, pieces_fault, joined, of_both, check_both, fill_both, report_both, derive_both, judge_both, early_fault, row_part}
use Rattle.door_pieces.specs.Pieces.{row_place, part_at}
use Rattle.door_pieces.specs.declared.RowPlace.TheVariants as place
use Rattle.door_pieces.specs.PiecesLaws.{joined_version, joined_agents, joined_rows, joined_places, joined_bytes, joined_dependencies, joined_length}
use Rattle.door_pieces.specs.PiecesLaws.{joined_shape, of_joined, part_joined, part_none, part_refused, part_at_lem, place_first, place_second}
use Rattle.door_pieces.specs.PiecesLaws.{place_nothing}
use Rattle.door_pieces.specs.Answers.{check_short, fill_short, report_short, derive_short, none_check, none_fill, none_report, none_derive, none_judge}

-- ---- the refusals of a pair, in their order: 1 to 4 of the first piece, then 40, then 3

module _ (f s : List ℕ) where
  pub first_refused : (shape_fault f ≡ 0 → ⊥) → pieces_fault f s ≡ shape_fault f
  unfolding pieces_fault
  first_refused d = rw (ne_eqb (shape_fault f) 0 d) refl

  module _ (z : shape_fault f ≡ 0) where
    -- a second piece whose size isn't a multiple of 16
    pub size_refused : (length s % ROW_BYTES ≡ 0 → ⊥) → pieces_fault f s ≡ 40
    unfolding pieces_fault
    size_refused d = rw (z, ne_eqb (length s % ROW_BYTES) 0 d) refl

    -- rows of both together over the limit
    pub rows_refused : length s % ROW_BYTES ≡ 0 → ROWS < rows_both f s → pieces_fault f s ≡ 3
    unfolding pieces_fault
    rows_refused e l = rw (z, e, lt-leb (rows_both f s) ROWS l) refl

    -- and nothing else is refused of the pair itself
    pub pair_passes : length s % ROW_BYTES ≡ 0 → rows_both f s ≤ ROWS → pieces_fault f s ≡ 0
    unfolding pieces_fault
    pair_passes e l = rw (z, e, le-leb (rows_both f s) ROWS l) refl

-- ---- the joined table

-- t has the first piece's version, agents, places and dependencies, and the rows of both in order; no refusal 1 to 4 holds of it
pub record Joined (f s t : List ℕ) : Type 0 where
  pub shape : shape_fault t ≡ 0
  pub version : version_at t ≡ version_at f
  pub agents : agents_at t ≡ agents_at f
  pub places : places_of t ≡ places_of f
  pub dependencies : dependency_bytes t ≡ dependency_bytes f
  pub count : rows_at t ≡ rows_at f + length s / ROW_BYTES
  pub rows : row_bytes t ≡ row_bytes f ++ s
  pub size : length t ≡ length f + length s

pub joined_is : (f s : List ℕ) → pieces_fault f s ≡ 0 → Joined f s (joined f s)
unfolding rows_both
joined_is f s z =
    record {
      shape = joined_shape f s z;
      version = joined_version f s z;
      agents = joined_agents f s z;
      places = joined_places f s z;
      dependencies = joined_dependencies f s z;
      count = joined_rows f s z;
      rows = joined_bytes f s z;
      size = joined_length f s z;
    }

-- ---- the answer is that of the joined table; what is left in the buffers goes by the same, as the contracts say

-- with refusal 11 first: a short buffer is 11 of the joined table too
door : {A : Type 0} (refused : ℕ → ℕ → A) (one : List ℕ → A) (f s : List ℕ) → pieces_fault f s ≡ 0 → (fits : Bool)
    → (fits ≡ false → one (joined f s) ≡ refused 11 0)
    → cond fits (of_both refused one f s) (refused 11 0) ≡ one (joined f s)
door refused one f s z true short = of_joined f s z refused one
door refused one f s z false short = sym (short refl)

module _ (f s : List ℕ) (z : pieces_fault f s ≡ 0) where
  module _ (work buffer : ℕ) where
    pub check_joined : (chains : Bool) → check_both chains f s work buffer ≡ check chains (joined f s) work buffer
    unfolding check_both
    check_joined chains = door _ _ f s z (buffers_fit CYCLE work buffer) (λ e. check_short chains work buffer e (joined f s))

    pub fill_joined : (chains : Bool) → fill_both chains f s work buffer ≡ fill chains (joined f s) work buffer
    unfolding fill_both
    fill_joined chains = door _ _ f s z (buffers_fit SOURCES work buffer) (λ e. fill_short chains work buffer e (joined f s))

    pub report_joined : (chains : Bool) → report_both chains f s work buffer ≡ report chains (joined f s) work buffer
    unfolding report_both
    report_joined chains = door _ _ f s z (buffers_fit CYCLE work buffer) (λ e. report_short chains work buffer e (joined f s))

    pub derive_joined : (m k : ℕ) → derive_both f s m k work buffer ≡ derive (joined f s) m k work buffer
    unfolding derive_both
    derive_joined m k = door _ _ f s z (buffers_fit STEPS work buffer) (λ e. derive_short m k work buffer e (joined f s))

  pub judge_joined : (m k : ℕ) (why : Reason) (steps : List ℕ) → judge_both f s m k why steps ≡ judge (joined f s) m k why steps
  unfolding judge_both
  judge_joined m k why steps = of_joined f s z _ _

-- ---- one piece is two of which the second is empty, for all bytes

pub record Alone (f : List ℕ) : Type 0 where
  pub checks : (chains : Bool) (work buffer : ℕ) → check_both chains f [] work buffer ≡ check chains f work buffer
  pub fills : (chains : Bool) (work buffer : ℕ) → fill_both chains f [] work buffer ≡ fill chains f work buffer
  pub reports : (chains : Bool) (work buffer : ℕ) → report_both chains f [] work buffer ≡ report chains f work buffer
  pub derives : (m k work buffer : ℕ) → derive_both f [] m k work buffer ≡ derive f m k work buffer
  pub judges : (m k : ℕ) (why : Reason) (steps : List ℕ) → judge_both f [] m k why steps ≡ judge f m k why steps

pub alone : (f : List ℕ) → Alone f
alone f =
    record {
      checks = λ chains w c. none_check chains w c f;
      fills = λ chains w c. none_fill chains w c f;
      reports = λ chains w c. none_report chains w c f;
      derives = λ m k w c. none_derive m k w c f;
      judges = λ m k why steps. none_judge m k why steps f;
    }

-- ---- row n: sixteen bytes of the joined table's rows, or nothing

pub record Part (f s : List ℕ) (n : ℕ) : Type 0 where
  -- a row of either piece is the joined table's row n
  pub held : early_fault f s ≡ 0 → n < rows_both f s → row_part f s n ≡ take ROW_BYTES (drop (ROW_BYTES * n) (row_bytes (joined f s)))
  -- neither holds it
  pub past : rows_both f s ≤ n → row_part f s n ≡ []
  -- pairs refused before 5 hold no rows
  pub refused : (early_fault f s ≡ 0 → ⊥) → row_part f s n ≡ []
  -- the place that C is told is that part's: a row in the first piece, one in the second, or nowhere
  pub at : row_part f s n ≡ part_at f s (row_place f s n)
  pub first : early_fault f s ≡ 0 → n < rows_at f → row_place f s n ≡ Some (place.First (rows_begin f + ROW_BYTES * n))
  pub second : early_fault f s ≡ 0 → rows_at f ≤ n → n < rows_both f s → row_place f s n ≡ Some (place.Second (ROW_BYTES * (n - rows_at f)))
  pub nowhere : row_place f s n ≡ None → row_part f s n ≡ []

pub part_is : (f s : List ℕ) (n : ℕ) → Part f s n
part_is f s n =
    record {
      held = λ z l. part_joined f s n z l;
      past = λ l. part_none f s n l;
      refused = λ d. part_refused f s n (early_fault f s) refl d;
      at = part_at_lem f s n;
      first = λ z l. sym (place_first f s n 0 (sym z) refl (rows_at f) refl (rows_begin f) refl l);
      second = λ z k l. sym (place_second f s n 0 (sym z) refl (rows_at f) refl (rows_both f s) refl k l);
      nowhere = λ e. part_at_lem f s n ∙ place_nothing f s (row_place f s n) e;
    }
