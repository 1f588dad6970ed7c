-- What the answers of the writer of tables and of its reader mean, of any values, bytes and buffers. To be read like
-- crates/model_promises/specs/Main.antt. What is promised is in proofs/Writer.antt, in these words.
--
-- The notation: (x : ℕ) → P is "for every x, P"; A × B "A and B"; A ⊎ B "A or B"; A → ⊥ "not A"; A ↔ B "A exactly when
-- B"; a ≡ b "a is b"; `take n x` is the first n of x and `drop n x` the rest. What stands behind `module _` is of all
-- that is indented below it. `abbrev` gives a name to what follows it.
--
-- The words: a table is written of a version, so many agents with the places p, so many rows l, each with its source,
-- and the dependencies d; `encode version agents p rows l d` is its bytes (crates/door_write/specs/Encode.antt),
-- whatever the values, and `buffer_after` what a buffer holds afterwards (Answer.antt there). `WriteRefuses` and `Says`
-- are in Terms.antt; `Fits` says that the values themselves are not refused (crates/door_write/specs/ValueLaws.antt),
-- `Fillable s` that a fill doesn't refuse the table s, buffers aside, and `Unfillable s n i` that it does, with number
-- n at row i (crates/model_promises/specs/Terms.antt). `…_in` are the values in lent parts
-- (crates/door_write/specs/Parts.antt): four numbers for a place, sixteen bytes for a row, two numbers for a
-- dependency. `PLACE_NUMBERS` is 4 and `ROW_BYTES` 16. What a caller's types give: `Bytes s`, each number is below 256;
-- `Numbers q`, each is below 65536; `Typed …`, the numbers among the values fit their types
-- (crates/door_write/specs/EncodeLaws.antt).
--
-- From a function to its meaning: the contract of a function is an equation. This page speaks of its right side:
--   door_write::write is `write_result (write_answer …)`, and leaves `buffer_after (write_answer …) (encode …) out`
--   door_write::parts::write_parts is `write_result (parts_answer …)`, and leaves
--     `buffer_after (parts_answer …) (parts_table …) out`
--   door_write::read::read_parts is `read_result (read_answer …)`, and leaves `places_after …`, `rows_after …` and
--     `dependencies_after …`
--   door_write::read::read_entries is `entries_of s`, read_dependencies `dependencies_of s`
-- `write_cases` and `read_cases` (proofs/Writer.antt) have each case of these results;
-- crates/stramashly_numbers/specs/Main.antt has the number that C gets.
use Rattle.std.specs.Prelude.{◌≡◌, true, false, List, ◌⊎◌, ℕ, ◌≤◌, length}
use Rattle.door_write.specs.declared.Dependencies.{Dependencies}
use Rattle.model.specs.declared.Entry.{Entry}
use Rattle.door_write.specs.Answer.{WriteAnswer}
use Rattle.door_write.specs.Read.{ReadAnswer}
use Rattle.model.specs.Header.{version_at, agents_at, rows_at}
use Rattle.model.specs.Table.{dependency_count}
use Rattle.model.specs.Header.{dependency_bytes}
use Rattle.door_write.specs.Encode.{encode, entries_in}
use Rattle.door_write.specs.ValueLaws.{Fits}
use Rattle.door_write.specs.Parts.{agents_in, places_in, rows_in, dependencies_in, parts_table}
use Rattle.door_write.specs.Read.{lent_fit}
use Rattle.model_promises.specs.Terms.{Fillable, Unfillable}
use Rattle.model_cited.specs.Terms.{WriteRefuses}

-- ==== What each answer means. It is given exactly when its meaning holds

module _ (version agents : ℕ) (p : List (List ℕ)) (rows : ℕ) (l : List Entry) (d : Dependencies) (room : ℕ) where
  -- writing values into a buffer with so much room. It is refused in the order of `WriteRefuses`: for the values 2, 3,
  -- 16 and 17, then what a fill refuses the table for, last 13; else the table is written, so many bytes
  abbrev pub WriteMeans : WriteAnswer → Type 0
  WriteMeans (WriteAnswer.Refused n i) = WriteRefuses version agents p rows l d room n i
  WriteMeans (WriteAnswer.Written m) = let t = encode version agents p rows l d in
      Fits version agents p rows d.count × Fillable t × (length t ≤ room) × (m ≡ length t)

module _ (version : ℕ) (places rows dependencies : List ℕ) (room : ℕ) where
  -- writing values that stand in lent parts
  abbrev pub PartsMeans : WriteAnswer → Type 0
  PartsMeans (WriteAnswer.Refused n i) =
      WriteRefuses version (agents_in places) (places_in places) (rows_in rows) (entries_in rows)
      (dependencies_in dependencies) room n i
  PartsMeans (WriteAnswer.Written m) = let t = parts_table version places rows dependencies in
      Fits version (agents_in places) (places_in places) (rows_in rows) (dependencies_in dependencies).count
      × Fillable t × (length t ≤ room) × (m ≡ length t)

module _ (s : List ℕ) (places rows dependencies : ℕ) where
  -- reading a table into three lent parts, by their lengths: 11 where one is too short for some table, then what a fill
  -- refuses; else its version and its three counts
  abbrev pub ReadMeans : ReadAnswer → Type 0
  ReadMeans (ReadAnswer.Refused n i) = ((lent_fit places rows dependencies ≡ false) × (n ≡ 11) × (i ≡ 0))
      ⊎ ((lent_fit places rows dependencies ≡ true) × Unfillable s n i)
  ReadMeans (ReadAnswer.Read v a n m) = (lent_fit places rows dependencies ≡ true) × Fillable s
      × (v ≡ version_at s) × (a ≡ agents_at s) × (n ≡ rows_at s) × (m ≡ dependency_count (dependency_bytes s))
