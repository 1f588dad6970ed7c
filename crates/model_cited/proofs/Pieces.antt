-- What is promised of a table in two pieces, of any bytes and any buffers. To be read like
-- crates/model_promises/specs/Main.antt: each proof names a theorem of a page beside this one. The notation, the words
-- and the meanings are those of specs/Pieces.antt.
use Rattle.std.specs.Prelude.{◌≡◌, Bool, List, [], ◌++◌, ◌⊎◌, ◌↔◌, ℕ, ◌+◌, ◌/◌, ◌<◌, length}
use Rattle.std.specs.declared.option.Option.{Option}
use Rattle.std.specs.declared.option.Option.TheVariants.{None, Some}
use Rattle.model.specs.declared.Reason.{Reason}
use Rattle.model.specs.declared.Admission.{Admission}
use Rattle.model.specs.Report.{Told}
use Rattle.model.specs.Limits.{CYCLE, SOURCES}
use Rattle.model.specs.Header.{ROW_BYTES, version_at, agents_at, rows_at, places_of, row_bytes, dependency_bytes}
use Rattle.model.specs.Table.{table_of}
use Rattle.model.specs.Refusal.{admission}
use Rattle.model.specs.Check.{Verdict, check}
use Rattle.model.specs.Fill.{Outcome, fill}
use Rattle.model.specs.Report.{report}
use Rattle.model.specs.Reason.{Judged, Derived, judge, derive}
use Rattle.door_pieces.specs.declared.RowPlace.{RowPlace}
use Rattle.door_pieces.specs.Pieces.{rows_both, pieces_fault, joined, check_both, fill_both, report_both, derive_both, judge_both, row_part, row_place, part_at}
use Rattle.door_pieces.specs.Promise.{alone}
use Rattle.model.specs.Words.{HappensBefore}
use Rattle.model_promises.specs.Terms.{Bytes, Short, DeriveHears}
use Rattle.model_promises.specs.Main.{CheckMeans, FillMeans, ReportMeans, ReaderMeans}
use Rattle.model_cited.specs.Terms.{HeaderRefuses, HeaderPasses, PairPasses, RowsHeld, OfPair}
use Rattle.model_cited.specs.Pieces.{PiecesMeans, Derive2Means, PlaceMeans, PartMeans}
use Rattle.model_cited.proofs as beside

-- ==== The refusals of a pair

module _ (f s : List ℕ) where
  -- the pair's own number is n exactly when the pair is refused so, in the order of `PairRefuses`: 1 to 4 of the first
  -- piece, then 40, then 3; it is 0 exactly when nothing of that is so
  pub pieces_means : (n : ℕ) → (pieces_fault f s ≡ n) ↔ PiecesMeans f s n
  pieces_means = beside.PiecesExactly.pair_exactly f s

-- 1 to 4 of the first piece are those that it would be refused for alone, in a check and in a fill
pub first_alone : (blanks : Bool) (f : List ℕ) (n : ℕ) → HeaderRefuses f n → admission blanks f ≡ Admission.Refused n 0
first_alone = beside.PiecesExactly.header_alone

-- ==== What each answer means. It is given exactly when its meaning holds: 11 for a short buffer, then the pair's own
-- refusal at row 0, then what the answer means of the joined table

module _ (chains : Bool) (f s : List ℕ) (work buffer : ℕ) where
  -- a check
  pub check2_means : (v : Verdict) → (check_both chains f s work buffer ≡ v)
      ↔ OfPair f s (Short CYCLE work buffer) Verdict.refused (λ t. CheckMeans chains t work buffer) v
  check2_means = beside.PiecesExactly.check_exactly chains f s work buffer

  -- a fill
  pub fill2_means : Bytes f → Bytes s → (o : Outcome) → (fill_both chains f s work buffer ≡ o)
      ↔ OfPair f s (Short SOURCES work buffer) Outcome.refused (λ t. FillMeans chains t work buffer) o
  fill2_means = beside.PiecesExactly.fill_exactly chains f s work buffer

  -- a report
  pub report2_means : (a : Told) → (report_both chains f s work buffer ≡ a)
      ↔ OfPair f s (Short CYCLE work buffer) Told.refused (λ t. ReportMeans chains t work buffer) a
  report2_means = beside.PiecesExactly.report_exactly chains f s work buffer

module _ (f s : List ℕ) (m k : ℕ) where
  -- the reader of derivations is lent no buffer
  pub reader2_means : (r : Reason) (l : List ℕ) (j : Judged) → (judge_both f s m k r l ≡ j)
      ↔ OfPair f s ⊥ Judged.refused (λ t. ReaderMeans t m k r l) j
  reader2_means = beside.PiecesExactly.reader_exactly f s m k

  -- the finder of one: which one it finds is undecided, so that a word or a chain is of one direction;
  -- some-found2 says when
  module _ (work buffer : ℕ) where
    pub derive2_means : (d : Derived) → derive_both f s m k work buffer ≡ d → Derive2Means f s m k work buffer d
    derive2_means = beside.PiecesExactly.derive_means f s m k work buffer

    -- a refusal, and "not before", are of both
    pub derive2_refuses : (n i : ℕ)
        → (derive_both f s m k work buffer ≡ Derived.refused n i) ↔ Derive2Means f s m k work buffer (Derived.refused n i)
    derive2_refuses = beside.PiecesExactly.derive_refuses f s m k work buffer

    pub not_before2_said : (derive_both f s m k work buffer ≡ Derived.not_before) ↔ Derive2Means f s m k work buffer Derived.not_before
    not_before2_said = beside.PiecesExactly.not_before_said f s m k work buffer

    -- a word or a chain is found exactly when the first moment happens before the second in the joined table
    pub some_found2 : ((derive_both f s m k work buffer ≡ Derived.word)
        ⊎ ((c : ℕ) × (l : List ℕ) × (derive_both f s m k work buffer ≡ Derived.chained c l)))
        ↔ (PairPasses f s × DeriveHears (joined f s) m k work buffer × HappensBefore (table_of (joined f s)) m k)
    some_found2 = beside.PiecesExactly.found_exactly f s m k work buffer

-- ==== The joined table, and the answers as equations

module _ (f s : List ℕ) (passes : PairPasses f s) where
  -- it is refused for none of 1 to 4; version, agents, places and dependencies are the first piece's, the rows those of
  -- both in order
  pub joined_is : let t = joined f s in HeaderPasses t
      × (version_at t ≡ version_at f) × (agents_at t ≡ agents_at f) × (places_of t ≡ places_of f)
      × (dependency_bytes t ≡ dependency_bytes f) × (rows_at t ≡ rows_at f + length s / ROW_BYTES)
      × (row_bytes t ≡ row_bytes f ++ s) × (length t ≡ length f + length s)
  joined_is = beside.PiecesExactly.joined_table f s passes

  -- of two pieces of bytes it is bytes too
  pub joined_bytes : Bytes f → Bytes s → Bytes (joined f s)
  joined_bytes = beside.PiecesExactly.joined_small f s passes

  -- each answer is that of the joined table, short buffers too; and so is what is left in the buffers
  pub check_joined : (chains : Bool) (work buffer : ℕ)
      → check_both chains f s work buffer ≡ check chains (joined f s) work buffer
  check_joined = beside.PiecesExactly.check_joined f s passes

  pub fill_joined : (chains : Bool) (work buffer : ℕ)
      → fill_both chains f s work buffer ≡ fill chains (joined f s) work buffer
  fill_joined = beside.PiecesExactly.fill_joined f s passes

  pub report_joined : (chains : Bool) (work buffer : ℕ)
      → report_both chains f s work buffer ≡ report chains (joined f s) work buffer
  report_joined = beside.PiecesExactly.report_joined f s passes

  pub derive_joined : (m k work buffer : ℕ) → derive_both f s m k work buffer ≡ derive (joined f s) m k work buffer
  derive_joined = beside.PiecesExactly.derive_joined f s passes

  pub reader_joined : (m k : ℕ) (r : Reason) (l : List ℕ) → judge_both f s m k r l ≡ judge (joined f s) m k r l
  reader_joined = beside.PiecesExactly.reader_joined f s passes

-- ==== One piece is two of which the second is empty, for all bytes

module _ (f : List ℕ) where
  -- a check, a fill, a report, the finder and the reader of derivations say of f alone what they say of f and nothing
  pub check_alone : (chains : Bool) (work buffer : ℕ) → check_both chains f [] work buffer ≡ check chains f work buffer
  check_alone = (alone f).checks

  pub fill_alone : (chains : Bool) (work buffer : ℕ) → fill_both chains f [] work buffer ≡ fill chains f work buffer
  fill_alone = (alone f).fills

  pub report_alone : (chains : Bool) (work buffer : ℕ)
      → report_both chains f [] work buffer ≡ report chains f work buffer
  report_alone = (alone f).reports

  pub derive_alone : (m k work buffer : ℕ) → derive_both f [] m k work buffer ≡ derive f m k work buffer
  derive_alone = (alone f).derives

  pub reader_alone : (m k : ℕ) (r : Reason) (l : List ℕ) → judge_both f [] m k r l ≡ judge f m k r l
  reader_alone = (alone f).judges

-- ==== Row n of a pair

module _ (f s : List ℕ) (n : ℕ) where
  -- where it begins: in the first piece, in the second, or nowhere, for a row that neither has and for a pair that is
  -- refused before 5
  pub place_means : (w : Option RowPlace) → (row_place f s n ≡ w) ↔ PlaceMeans f s n w
  place_means (Some (RowPlace.First at)) = beside.PiecesExactly.place_exactly f s n (Some (RowPlace.First at))
  place_means (Some (RowPlace.Second at)) = beside.PiecesExactly.place_exactly f s n (Some (RowPlace.Second at))
  place_means None = beside.PiecesExactly.place_exactly f s n None

  -- what row_part shows begins at that place
  pub part_place : row_part f s n ≡ part_at f s (row_place f s n)
  part_place = beside.PiecesExactly.part_place f s n

  -- and is the sixteen bytes of row n of the joined table, or nothing
  pub part_means : (x : List ℕ) → (row_part f s n ≡ x) ↔ PartMeans f s n x
  part_means = beside.PiecesExactly.part_exactly f s n

  -- a part that is shown has all sixteen
  pub part_long : RowsHeld f s → n < rows_both f s → length (row_part f s n) ≡ ROW_BYTES
  part_long = beside.PiecesExactly.part_long f s n
