-- The words of Pieces.antt, Writer.antt and Stepping.antt. Those of the promises are in
-- crates/model_promises/specs/Terms.antt.
use Rattle.std.specs.Prelude.{◌≡◌, true, false, List, [], ℕ, ◌%◌, ◌≤◌, ◌<◌, length, get_or}
use Rattle.model.specs.declared.Admission.TheVariants.{Admitted}
use Rattle.model.specs.declared.Source.{Source}
use Rattle.model.specs.Limits.{ROWS}
use Rattle.model.specs.Table.{row_of, sources_of}
use Rattle.model.specs.Header.{HEADER, ROW_BYTES, version_at, place_at, row_bytes}
use Rattle.model.specs.Table.{dependency_count, dependency_from, dependency_to}
use Rattle.model.specs.Header.{dependency_bytes}
use Rattle.model.specs.Refusal.{version_fits, limits_fit, length_fits, hosts_fault, admission}
use Rattle.door_pieces.specs.Pieces.{rows_both, joined}
use Rattle.door_write.specs.declared.Dependencies.{Dependencies}
use Rattle.model.specs.declared.Entry.{Entry}
use Rattle.door_write.specs.Encode.{entry_at, encode}
use Rattle.door_write.specs.Answer.{version_known, counts_fit, numbers_fit, dependencies_fit}
use Rattle.door_write.specs.ValueLaws.{Fits}
use Rattle.model_promises.specs.Terms.{Fillable, Unfillable}
use Rattle.door_step.specs.declared.RowReader.{RowReader}
use Rattle.door_step.specs.Steps.{opened_part}

-- ---- a table in two pieces, f and s

-- refusals 1 to 4 of one table, in their order; or none of them
pub data HeaderRefuses (f : List ℕ) (n : ℕ) : Type 0 where
  too_short : length f < HEADER → n ≡ 1 → HeaderRefuses f n
  other_version : HEADER ≤ length f → version_fits f ≡ false → n ≡ 2 → HeaderRefuses f n
  over_limits : HEADER ≤ length f → version_fits f ≡ true → limits_fit f ≡ false → n ≡ 3 → HeaderRefuses f n
  other_length : HEADER ≤ length f → version_fits f ≡ true → limits_fit f ≡ true → length_fits f ≡ false → n ≡ 4
      → HeaderRefuses f n

pub record HeaderPasses (f : List ℕ) : Type 0 where
  pub long : HEADER ≤ length f
  pub version : version_fits f ≡ true
  pub limits : limits_fit f ≡ true
  pub size : length_fits f ≡ true

-- the pair is refused with number n: 1 to 4 of the first piece, then 40 for a second one that isn't whole rows, then 3
-- for too many rows of both; or it isn't
pub data PairRefuses (f s : List ℕ) (n : ℕ) : Type 0 where
  first_piece : HeaderRefuses f n → PairRefuses f s n
  broken_rows : HeaderPasses f → (length s % ROW_BYTES ≡ 0 → ⊥) → n ≡ 40 → PairRefuses f s n
  too_many_rows : HeaderPasses f → length s % ROW_BYTES ≡ 0 → ROWS < rows_both f s → n ≡ 3 → PairRefuses f s n

pub record PairPasses (f s : List ℕ) : Type 0 where
  pub first : HeaderPasses f
  pub whole : length s % ROW_BYTES ≡ 0
  pub few : rows_both f s ≤ ROWS

-- and nor is the joined table before refusal 5, for its agents and dependencies: there are rows to show
pub record RowsHeld (f s : List ℕ) : Type 0 where
  pub pair : PairPasses f s
  pub hosts : hosts_fault (joined f s) ≡ 0

-- a is an answer about the pair. `Short` says that a lent buffer is too short, `refused` is a refusal as the answer has
-- it, and `Means t a` says that a is true of one table t
pub data OfPair {A : Type 0} (f s : List ℕ) (Short : Type 0) (refused : ℕ → ℕ → A) (Means : List ℕ → A → Type 0)
    (a : A) : Type 0 where
  short_buffer : Short → a ≡ refused 11 0 → OfPair f s Short refused Means a
  refused_pair : (Short → ⊥) → (n : ℕ) → PairRefuses f s n → a ≡ refused n 0 → OfPair f s Short refused Means a
  of_joined : (Short → ⊥) → PairPasses f s → Means (joined f s) a → OfPair f s Short refused Means a

-- ---- the writer: a version, so many agents with the places p, so many rows l, and the dependencies d

-- writing these values into a buffer with so much room is refused with number n at row i: first what they are refused
-- for themselves, then what a fill refuses their table for, last a buffer that is too short
pub data WriteRefuses (version agents : ℕ) (p : List (List ℕ)) (rows : ℕ) (l : List Entry) (d : Dependencies)
    (room n i : ℕ) : Type 0 where
  other_version : version_known version ≡ false → n ≡ 2 → i ≡ 0 → WriteRefuses version agents p rows l d room n i
  over_limits : version_known version ≡ true → counts_fit agents rows ≡ false → n ≡ 3 → i ≡ 0
      → WriteRefuses version agents p rows l d room n i
  other_agents : version_known version ≡ true → counts_fit agents rows ≡ true → numbers_fit version agents p ≡ false
      → n ≡ 16 → i ≡ 0 → WriteRefuses version agents p rows l d room n i
  many_dependencies : version_known version ≡ true → counts_fit agents rows ≡ true → numbers_fit version agents p ≡ true
      → dependencies_fit version d.count ≡ false → n ≡ 17 → i ≡ 0 → WriteRefuses version agents p rows l d room n i
  refused_table : Fits version agents p rows d.count → Unfillable (encode version agents p rows l d) n i
      → WriteRefuses version agents p rows l d room n i
  short_room : Fits version agents p rows d.count → Fillable (encode version agents p rows l d)
      → room < length (encode version agents p rows l d) → n ≡ 13 → i ≡ 0
      → WriteRefuses version agents p rows l d room n i

-- a fill admits the table t, and these values stand in it, by the definitions that every answer goes by
pub record Says (t : List ℕ) (v agents : ℕ) (p : List (List ℕ)) (rows : ℕ) (l : List Entry) (d : Dependencies)
    : Type 0 where
  pub admitted : admission true t ≡ Admitted agents rows
  pub version : version_at t ≡ v
  pub place : (a : ℕ) → a < agents → place_at t a ≡ get_or p a []
  pub row : (i : ℕ) → i < rows → row_of (row_bytes t) i ≡ (entry_at l i).row
  pub source : (i : ℕ) → i < rows → sources_of t i ≡ (entry_at l i).source.0
  pub count : dependency_count (dependency_bytes t) ≡ d.count
  pub dependency : (k : ℕ) → k < d.count → (dependency_from (dependency_bytes t) k ≡ get_or d.first k 0)
      × (dependency_to (dependency_bytes t) k ≡ get_or d.second k 0)

-- ---- stepping

-- the source n as a value
abbrev pub source : ℕ → Source
source n = record { 0 = n }

-- r is a reader as `open` gives it for the table s
abbrev pub Opens : List ℕ → RowReader → Type 0
Opens s r = (r.table.now ≡ opened_part (admission true s) s) × (r.at ≡ 0)
