-- What is promised of the writer of tables and of its reader, of any values, bytes and buffers. To be read like
-- crates/model_promises/specs/Main.antt: each proof names a theorem of a page beside this one or of
-- specs/ReadExactly.antt. The notation, the words and the meanings are those of specs/Writer.antt.
use Rattle.std.specs.Prelude.{◌≡◌, true, false, List, ◌↔◌, ℕ, ◌*◌, ◌≤◌, ◌<◌, length, take, drop}
use Rattle.std.specs.declared.result.Result.TheVariants.{Ok, Err}
use Rattle.model.specs.Limits.{ROWS}
use Rattle.model.specs.Refusal.{refusal}
use Rattle.door_write.specs.declared.{Dependencies.Dependencies, Sizes.Sizes}
use Rattle.model.specs.declared.Entry.{Entry}
use Rattle.door_write.specs.Answer.{WriteAnswer}
use Rattle.door_write.specs.Read.{ReadAnswer}
use Rattle.model.specs.Table.{row_of, source_of}
use Rattle.model.specs.Header.{ROW_BYTES, version_at, agents_at, rows_at, places_of, row_bytes}
use Rattle.door_write.specs.Encode.{row_list, rows_part, encode, entries_in, entries_of, dependencies_of}
use Rattle.door_write.specs.Answer.{version_known, counts_fit, numbers_fit, dependencies_fit, write_answer, buffer_after}
use Rattle.door_write.specs.Answer.{write_result}
use Rattle.door_write.specs.ValueLaws.{Fits}
use Rattle.door_write.specs.EncodeLaws.{Typed}
use Rattle.door_write.specs.AnswerLaws.{of_table}
use Rattle.door_write.specs.PastLaws.{Alike}
use Rattle.door_write.specs.Parts.{PLACE_NUMBERS, agents_in, places_in, rows_in, dependencies_in, parts_answer, parts_table}
use Rattle.door_write.specs.PartsLaws.{Numbers}
use Rattle.door_write.specs.Read.{place_numbers, end_numbers, lent_fit, read_answer, places_after, rows_after, dependencies_after}
use Rattle.door_write.specs.Read.{read_result}
use Rattle.door_write.specs.Promise.{past_bytes, past_answer, parts_rows}
use Rattle.model_promises.specs.Terms.{Bytes, Fillable, Unfillable}
use Rattle.model_cited.specs.Terms.{Says}
use Rattle.model_cited.specs.ReadExactly as reading
use Rattle.model_cited.specs.Writer.{WriteMeans, PartsMeans, ReadMeans}
use Rattle.model_cited.proofs as beside

-- ==== What each answer means. It is given exactly when its meaning holds

module _ (version agents : ℕ) (p : List (List ℕ)) (rows : ℕ) (l : List Entry) (d : Dependencies) (room : ℕ) where
  -- writing values into a buffer with so much room. It is refused in the order of `WriteRefuses`: for the values 2, 3,
  -- 16 and 17, then what a fill refuses the table for, last 13; else the table is written, so many bytes
  pub write_means : (a : WriteAnswer) → (write_answer version agents p rows l d room ≡ a) ↔ WriteMeans version agents p rows l d room a
  write_means (WriteAnswer.Refused n i) =
      beside.WriteExactly.write_exactly version agents p rows l d room (WriteAnswer.Refused n i)
  write_means (WriteAnswer.Written m) =
      beside.WriteExactly.write_exactly version agents p rows l d room (WriteAnswer.Written m)

module _ (version : ℕ) (places rows dependencies : List ℕ) (room : ℕ) where
  -- writing values that stand in lent parts
  pub parts_means : (a : WriteAnswer) → (parts_answer version places rows dependencies room ≡ a) ↔ PartsMeans version places rows dependencies room a
  parts_means (WriteAnswer.Refused n i) =
      beside.WriteExactly.parts_exactly version places rows dependencies room (WriteAnswer.Refused n i)
  parts_means (WriteAnswer.Written m) =
      beside.WriteExactly.parts_exactly version places rows dependencies room (WriteAnswer.Written m)

module _ (s : List ℕ) (places rows dependencies : ℕ) where
  -- reading a table into three lent parts, by their lengths: 11 where one is too short for some table, then what a fill
  -- refuses; else its version and its three counts
  pub read_means : (a : ReadAnswer) → (read_answer s places rows dependencies ≡ a) ↔ ReadMeans s places rows dependencies a
  read_means (ReadAnswer.Refused n i) =
      reading.read_exactly s places rows dependencies (ReadAnswer.Refused n i)
  read_means (ReadAnswer.Read v a n m) =
      reading.read_exactly s places rows dependencies (ReadAnswer.Read v a n m)

-- ==== A program's result: each case is given exactly for its answer, with its numbers

-- a write, of values or of lent parts: `Err` is its refusal, `Ok` how many bytes are written
pub write_cases : (a : WriteAnswer) → ((n i : ℕ) → (write_result a ≡ Err (refusal n i)) ↔ (a ≡ WriteAnswer.Refused n i))
    × ((m : ℕ) → (write_result a ≡ Ok m) ↔ (a ≡ WriteAnswer.Written m))
write_cases a = (beside.WriteExactly.writes_refused a, beside.WriteExactly.writes_written a)

-- a reading into lent parts: `Err` is its refusal, `Ok` the version and the three counts
pub read_cases : (a : ReadAnswer) → ((n i : ℕ) → (read_result a ≡ Err (refusal n i)) ↔ (a ≡ ReadAnswer.Refused n i))
    × ((z : Sizes) → (read_result a ≡ Ok z) ↔ (a ≡ ReadAnswer.Read z.version z.agents z.rows z.dependencies))
read_cases a = (reading.reads_refused a, reading.reads_sizes a)

-- ==== What is written reads back as what was given, and what was read is written as it stood

-- values: a fill admits their table, and they stand in it
pub written_says : (version agents : ℕ) (p : List (List ℕ)) (rows : ℕ) (l : List Entry) (d : Dependencies) (room : ℕ)
    → Typed agents p rows l d → (m : ℕ) → write_answer version agents p rows l d room ≡ WriteAnswer.Written m
    → Says (encode version agents p rows l d) version agents p rows l d
written_says = beside.WriteExactly.written_says

-- the values of a table that a fill admits are written as the same bytes, given room for them
pub values_again : (s : List ℕ) → Bytes s → Fillable s
    → (encode (version_at s) (agents_at s) (places_of s) (rows_at s) (entries_of s) (dependencies_of s) ≡ s)
    × ((room : ℕ) → length s ≤ room
    → write_answer (version_at s) (agents_at s) (places_of s) (rows_at s) (entries_of s) (dependencies_of s) room
    ≡ WriteAnswer.Written (length s))
values_again = reading.values_again

-- and so is each of its rows
pub row_again : (s : List ℕ) → Bytes s → Fillable s → (i : ℕ) → i < rows_at s
    → row_list (row_of (row_bytes s) i) (source_of (row_bytes s) i) ≡ take ROW_BYTES (drop (ROW_BYTES * i) (row_bytes s))
row_again = reading.row_again

-- what was written of lent parts that are of bytes and of numbers of 16 bits
module _ (version : ℕ) (places rows dependencies : List ℕ) (sixteen : Numbers places) (eight : Bytes rows)
    (ends : Numbers dependencies) (room k : ℕ)
    (w : parts_answer version places rows dependencies room ≡ WriteAnswer.Written k) where
  -- a fill admits the table of the parts, and their values stand in it
  pub parts_say : Says (parts_table version places rows dependencies) version
      (agents_in places) (places_in places) (rows_in rows) (entries_in rows) (dependencies_in dependencies)
  parts_say = beside.WriteExactly.parts_say version places rows dependencies room sixteen eight ends k w

  -- read back into parts that held p, b and e: the version, the counts, and the numbers and bytes that were handed over
  pub parts_back : (p b e : List ℕ) → lent_fit (length p) (length b) (length e) ≡ true
      → let t = parts_table version places rows dependencies in
      let r = read_answer t (length p) (length b) (length e) in
      let a = agents_in places in
      let n = rows_in rows in
      let m = (dependencies_in dependencies).count in
      (r ≡ ReadAnswer.Read version a n m)
      × (take (PLACE_NUMBERS * a) (places_after r t p) ≡ take (PLACE_NUMBERS * a) places)
      × (take (ROW_BYTES * n) (rows_after r t b) ≡ take (ROW_BYTES * n) rows)
      × (take (2 * m) (dependencies_after r t e) ≡ take (2 * m) dependencies)
  parts_back = reading.read_back version places rows dependencies sixteen eight ends room k w

-- what was read of a table s into parts that held p, b and e is written as the same bytes, given room for them
pub read_again : (s p b e : List ℕ) → let r = read_answer s (length p) (length b) (length e) in (v a n m : ℕ)
    → r ≡ ReadAnswer.Read v a n m → Bytes s → let P = take (PLACE_NUMBERS * a) (places_after r s p) in
    let B = take (ROW_BYTES * n) (rows_after r s b) in
    let E = take (2 * m) (dependencies_after r s e) in
    (parts_table v P B E ≡ s)
    × ((room : ℕ) → length s ≤ room → parts_answer v P B E room ≡ WriteAnswer.Written (length s))
read_again = reading.written_again

-- ==== What the buffers hold

-- `out`, after a write: the table and then what was there, or where it is refused, what was there
module _ (version agents : ℕ) (p : List (List ℕ)) (rows : ℕ) (l : List Entry) (d : Dependencies) (room : ℕ) where
  abbrev t : List ℕ
  t = encode version agents p rows l d

  abbrev said : WriteAnswer
  said = write_answer version agents p rows l d room

  -- a write of values
  pub written_buffer : (m : ℕ) → said ≡ WriteAnswer.Written m → (out : List ℕ)
      → (take m (buffer_after said t out) ≡ t) × (drop m (buffer_after said t out) ≡ drop m out)
  written_buffer = beside.WriteExactly.buffer_written version agents p rows l d room

  pub refused_buffer : (n i : ℕ) → said ≡ WriteAnswer.Refused n i → (out : List ℕ) → buffer_after said t out ≡ out
  refused_buffer = beside.WriteExactly.buffer_refused version agents p rows l d room

module _ (version : ℕ) (places rows dependencies : List ℕ) (room : ℕ) where
  abbrev table : List ℕ
  table = parts_table version places rows dependencies

  abbrev told : WriteAnswer
  told = parts_answer version places rows dependencies room

  -- a write of lent parts
  pub parts_written : (m : ℕ) → told ≡ WriteAnswer.Written m → (out : List ℕ)
      → (take m (buffer_after told table out) ≡ table) × (drop m (buffer_after told table out) ≡ drop m out)
  parts_written = beside.WriteExactly.parts_buffer_written version places rows dependencies room

  pub parts_refused : (n i : ℕ) → told ≡ WriteAnswer.Refused n i → (out : List ℕ) → buffer_after told table out ≡ out
  parts_refused = beside.WriteExactly.parts_buffer_refused version places rows dependencies room

-- parts that held p, b and e, after s was read: its places, rows and dependencies and then what was there, or where
-- that is refused, what was there
module _ (s p b e : List ℕ) where
  abbrev given : ReadAnswer
  given = read_answer s (length p) (length b) (length e)

  -- nothing is written where the reading is refused
  pub unread_parts : (n i : ℕ) → given ≡ ReadAnswer.Refused n i
      → (places_after given s p ≡ p) × (rows_after given s b ≡ b) × (dependencies_after given s e ≡ e)
  unread_parts = reading.parts_left s p b e

  module _ (v a n m : ℕ) (r : given ≡ ReadAnswer.Read v a n m) where
    -- four numbers for each agent, sixteen bytes for each row as they stand in s, two numbers for each dependency
    pub read_places : take (PLACE_NUMBERS * a) (places_after given s p) ≡ place_numbers (places_of s) (agents_at s)
    read_places = reading.places_held s p b e v a n m r

    pub read_rows : Bytes s → take (ROW_BYTES * n) (rows_after given s b) ≡ row_bytes s
    read_rows = reading.rows_held s p b e v a n m r

    pub read_dependencies : take (2 * m) (dependencies_after given s e) ≡ end_numbers (dependencies_of s)
    read_dependencies = reading.dependencies_held s p b e v a n m r

    -- and what stood behind them stays
    pub read_rest : (drop (PLACE_NUMBERS * a) (places_after given s p) ≡ drop (PLACE_NUMBERS * a) p)
        × (drop (ROW_BYTES * n) (rows_after given s b) ≡ drop (ROW_BYTES * n) b)
        × (drop (2 * m) (dependencies_after given s e) ≡ drop (2 * m) e)
    read_rest = reading.rest_left s p b e v a n m r

-- ==== The numbers of a write's refusals tell them apart: each is given for its own case alone

module _ (version agents : ℕ) (p : List (List ℕ)) (rows : ℕ) (l : List Entry) (d : Dependencies)
    (typed : Typed agents p rows l d) (room : ℕ) where
  abbrev Refused : ℕ → ℕ → Type 0
  Refused n i = write_answer version agents p rows l d room ≡ WriteAnswer.Refused n i

  -- 2: the version; 3: the counts of agents and rows; 16: an agent's fourth number; 17: the count of dependencies
  pub refused_2 : Refused 2 0 ↔ version_known version ≡ false
  refused_2 = beside.WriteExactly.refused_2 version agents p rows l d room typed

  pub refused_3 : Refused 3 0 ↔ (version_known version ≡ true) × (counts_fit agents rows ≡ false)
  refused_3 = beside.WriteExactly.refused_3 version agents p rows l d room typed

  pub refused_16 : Refused 16 0
      ↔ (version_known version ≡ true) × (counts_fit agents rows ≡ true) × (numbers_fit version agents p ≡ false)
  refused_16 = beside.WriteExactly.refused_16 version agents p rows l d room typed

  pub refused_17 : Refused 17 0
      ↔ (version_known version ≡ true) × (counts_fit agents rows ≡ true) × (numbers_fit version agents p ≡ true)
      × (dependencies_fit version d.count ≡ false)
  refused_17 = beside.WriteExactly.refused_17 version agents p rows l d room typed

  -- 5 to 10, 14, 15, 18 to 20, which `of_table` says: what a fill refuses the table for
  pub refused_table : (n i : ℕ) → of_table n ≡ true
      → Refused n i ↔ Fits version agents p rows d.count × Unfillable (encode version agents p rows l d) n i
  refused_table = beside.WriteExactly.refused_table version agents p rows l d room typed

  -- 13: all is well but for the buffer
  pub refused_13 : Refused 13 0 ↔ Fits version agents p rows d.count × Fillable (encode version agents p rows l d)
      × (room < length (encode version agents p rows l d))
  refused_13 = beside.WriteExactly.refused_13 version agents p rows l d room typed

-- ==== Values past their counts, and rows as bytes

-- Values past their counts make no difference, whatever they are: `Alike` values are the same as far as counted
module _ (version agents : ℕ) (p q : List (List ℕ)) (rows : ℕ) (l k : List Entry) (d e : Dependencies)
    (alike : Alike agents p q rows l k d e) where
  pub past_same : encode version agents p rows l d ≡ encode version agents q rows k e
  past_same = past_bytes version agents p q rows l k d e alike

  pub past_said : (room : ℕ)
      → write_answer version agents p rows l d room ≡ write_answer version agents q rows k e room
  past_said = past_answer version agents p q rows l k d e alike

-- rows that are handed over as their sixteen bytes are written as these
pub rows_same : (b : List ℕ) → Bytes b → rows_in b ≤ ROWS
    → rows_part (rows_in b) (entries_in b) ≡ take (ROW_BYTES * rows_in b) b
rows_same = parts_rows
