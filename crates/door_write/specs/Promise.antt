-- The writer, in its reader's words: what is written is admitted by a fill and reads back as what was given; writing what was read
-- gives the same bytes; a refusal writes nothing; and each answer is given exactly for its case.
-- `write_answer`, `encode` and `buffer_after` are the definitions that the contract of `write` names, `entries_of` and `dependencies_of`
-- those of the readers; `version_at`, `place_at`, `row_of` and the others are those that every answer about a table goes by.
use Rattle.std.specs.Prelude.{◌≡◌, false, cond, ◌⊎◌, ◌↔◌, ℕ, ◌*◌, ◌/◌, ◌≤◌, ◌<◌, length, get_or, drop, eqb, ltb}
use Rattle.std.proofs.Math.Path.{refl, ap}
use Rattle.std.proofs.Common.{sym, ◌∙◌, subst, inl, inr, ⊎_elim, arith, take_at, eq-eqb, lt-ltb, le-ltb}
use Rattle.std.proofs.Math.Bool.{true}
use mathlib.Core.List.{List, []}
use Rattle.std.proofs.Math.Decide.{dec_lt}
use Rattle.std.proofs.Math.ListN.{take}
use Rattle.std.proofs.Math.Seq.{drop_at}
use Rattle.finite.specs.Logic.{◌and◌, ◌or◌, which, not_both}
use Rattle.model.specs.declared.Admission.{Admission}
use Rattle.model.specs.declared.Admission.TheVariants.{Admitted, Refused}
use Rattle.model.specs.Limits.{ROWS}
use Rattle.model.specs.Table.{row_of, source_of, sources_of, dependency_count}
use Rattle.model.specs.Header.{ROW_BYTES, version_at, agents_at, rows_at, place_at, places_of, row_bytes, dependency_bytes}
use Rattle.model.specs.Table.{dependency_from, dependency_to}
use Rattle.model.specs.Refusal.{dependencies_named, header_fault, admission}
use Rattle.model_laws.specs.FilledLaws.{Bytes}
use Rattle.model_laws.specs.AdmissionLaws.{Sound, sound_admitted, admitted_sound}
use Rattle.model.specs.declared.Entry.{Entry}
use Rattle.door_write.specs.declared.Dependencies.{Dependencies}
use Rattle.door_write.specs.Answer as Answer
use Rattle.door_write.specs.Encode.{row_list, entry_at, table_size, rows_part, encode, entries_in, entries_of, dependencies_of}
use Rattle.door_write.specs.Parts.{PLACE_NUMBERS, capped, agents_in, places_in, rows_in, dependencies_in, parts_answer, parts_table}
use Rattle.door_write.specs.PartsLaws.{Numbers, parts_typed}
use Rattle.door_write.specs.Answer.{version_known, counts_fit, numbers_fit, dependencies_fit, values_fault, write_answer, buffer_after}
use Rattle.door_write.specs.ValueLaws.{Fits, values_fit, fit_values, rows_length, encode_length}
use Rattle.door_write.specs.EncodeLaws.{Typed, encode_version, encode_agents, encode_rows, encode_row, encode_source, encode_count, encode_from}
use Rattle.door_write.specs.EncodeLaws.{encode_to, encode_place, encode_fault}
use Rattle.door_write.specs.ReadLaws.{rows_same, length_same, read_fits, row_again, written_again}
use Rattle.door_write.specs.AnswerLaws.{of_table, Admits, admission_number, room_short, room_long, values_in, table_in_lem, admitted_in, written_out}
use Rattle.door_write.specs.AnswerLaws.{refused_out, fault_apart, fault_version, fault_limits, fault_numbers, fault_dependencies}
use Rattle.door_write.specs.PastLaws.{Alike, encode_alike, answer_alike}
use Rattle.door_write.specs.Read.{ReadAnswer}
use Rattle.door_write.specs.Read as Given
use Rattle.door_write.specs.Read.{place_numbers, end_numbers, lent_fit, read_answer, places_after, rows_after, dependencies_after}
use Rattle.door_write.specs.BackLaws.{given_out, given_in, places_after_lem, rows_after_lem, dependencies_after_lem, fronted_front, fronted_rest, numbers_long}
use Rattle.door_write.specs.BackLaws.{ends_long, rows_given, table_again, answer_again, places_back, rows_back, count_back, ends_back}

-- ---- what was written

module _ (version agents : ℕ) (p : List (List ℕ)) (rows : ℕ) (l : List Entry) (d : Dependencies) (typed : Typed agents p rows l d)
    (room m : ℕ) (w : write_answer version agents p rows l d room ≡ Answer.Written m) where
  abbrev t : List ℕ
  t = encode version agents p rows l d

  fits : Fits version agents p rows d.count
  fits = values_fit version agents p rows d.count (written_out version agents p rows l d room m w).0

  -- a fill admits it, with these counts
  pub written_admitted : admission true t ≡ Admitted agents rows
  written_admitted =
      let a = (written_out version agents p rows l d room m w).1 in
      sound_admitted true t (admitted_sound true t a.2) ∙ same
    where
      same : Admitted (agents_at t) (rows_at t) ≡ Admitted agents rows
      same = rw (encode_agents version agents p rows l d, encode_rows version agents p rows l d) refl

  -- the same version, places, rows, sources and dependencies
  pub written_version : version_at t ≡ version
  written_version = encode_version version agents p rows l d

  pub written_place : (a : ℕ) → a < agents → place_at t a ≡ get_or p a []
  written_place = encode_place version agents p rows l d fits typed

  pub written_row : (i : ℕ) → i < rows → row_of (row_bytes t) i ≡ (entry_at l i).row
  written_row = encode_row version agents p rows l d fits typed

  pub written_source : (i : ℕ) → i < rows → sources_of t i ≡ (entry_at l i).source.0
  written_source = encode_source version agents p rows l d fits typed

  pub written_count : dependency_count (dependency_bytes t) ≡ d.count
  written_count = encode_count version agents p rows l d fits typed

  pub written_dependency : (k : ℕ) → k < d.count
      → (dependency_from (dependency_bytes t) k ≡ get_or d.first k 0) × (dependency_to (dependency_bytes t) k ≡ get_or d.second k 0)
  written_dependency k h = (encode_from version agents p rows l d fits typed k h, encode_to version agents p rows l d fits typed k h)

  -- it has as many bytes as the answer says, and the buffer begins with them; bytes after them stay
  pub written_size : (length t ≡ m) × (m ≤ room)
  written_size =
      let o = written_out version agents p rows l d room m w in
      let n = encode_length version agents p rows l d in
      let e : m ≡ table_size version agents rows d.count = o.2 in
      (n ∙ sym e, let h = o.3 in omega arith)

  pub written_buffer : (out : List ℕ)
      → (take m (buffer_after (write_answer version agents p rows l d room) t out) ≡ t)
      × (drop m (buffer_after (write_answer version agents p rows l d room) t out) ≡ drop m out)
  unfolding buffer_after
  written_buffer out = rw w (take_at t (drop m out) m written_size.0, drop_at t (drop m out) m written_size.0)

-- ---- what was refused

-- a refusal writes nothing
pub refused_buffer : (version agents : ℕ) (p : List (List ℕ)) (rows : ℕ) (l : List Entry) (d : Dependencies) (room k i : ℕ)
    → write_answer version agents p rows l d room ≡ Answer.Refused k i → (out : List ℕ)
    → buffer_after (write_answer version agents p rows l d room) (encode version agents p rows l d) out ≡ out
unfolding buffer_after
refused_buffer version agents p rows l d room k i w out = rw w refl

-- ---- writing what was read

-- from any table that a fill admits, into a buffer that is long enough: the same bytes
module _ (s : List ℕ) (bytes : Bytes s) (admits : Admits s) where
  pub read_written : (room : ℕ) → length s ≤ room
      → write_answer (version_at s) (agents_at s) (places_of s) (rows_at s) (entries_of s) (dependencies_of s) room ≡ Answer.Written (length s)
  unfolding dependencies_of
  read_written room h =
      let sound = admitted_sound true s admits.2 in
      let n = length_same sound in
      admitted_in (version_at s) (agents_at s) (places_of s) (rows_at s) (entries_of s) (dependencies_of s) room (fit_values (read_fits sound))
      (subst Admits (sym (written_again sound bytes)) admits)
      ∙ room_long _ room (omega arith) ∙ ap Answer.Written (sym n)

  pub read_same : encode (version_at s) (agents_at s) (places_of s) (rows_at s) (entries_of s) (dependencies_of s) ≡ s
  read_same = written_again (admitted_sound true s admits.2) bytes

-- row i of a table that a fill admits, read and written, is its own sixteen bytes
pub row_bytes_again : (s : List ℕ) → Bytes s → (a n : ℕ) → admission true s ≡ Admitted a n → (i : ℕ) → i < n
    → row_list (row_of (row_bytes s) i) (source_of (row_bytes s) i) ≡ take ROW_BYTES (drop (ROW_BYTES * i) (row_bytes s))
row_bytes_again s small a n e i l =
    let sound = admitted_sound true s e in
    let c : n ≡ rows_at s = ap counted (sym e ∙ sound_admitted true s sound) in
    row_again sound small i (subst (λ (m : ℕ). i < m) c l)
  where
    counted : Admission → ℕ
    counted (Admitted x y) = y
    counted (Refused x y) = 0

-- ---- each answer exactly for its case

eighteen : of_table (cond {A = ℕ} false 0 18) ≡ true
unfolding of_table ◌and◌ ◌or◌
eighteen = refl

thirteen : of_table 13 ≡ false
unfolding of_table ◌and◌ ◌or◌
thirteen = refl

both : {A B C : Type 0} → A ↔ B → B ↔ C → A ↔ C
both f g = (λ a. g.0 (f.0 a), λ c. f.1 (g.1 c))

module _ (version agents : ℕ) (p : List (List ℕ)) (rows : ℕ) (l : List Entry) (d : Dependencies) (typed : Typed agents p rows l d) (room : ℕ) where
  abbrev fault : ℕ
  fault = values_fault version agents p rows d.count

  abbrev u : List ℕ
  u = encode version agents p rows l d

  -- what a table of such values is refused for is about its rows or dependencies
  table_number : fault ≡ 0 → (k i : ℕ) → admission true u ≡ Refused k i → of_table k ≡ true
  table_number z k i q = admission_number true u k i (named (which (dependencies_named u))) q
    where
      h : header_fault u ≡ cond (dependencies_named u) 0 18
      h = encode_fault version agents p rows l d (values_fit version agents p rows d.count z) typed

      named : (dependencies_named u ≡ true) ⊎ (dependencies_named u ≡ false) → (of_table (header_fault u) ≡ true) ⊎ (header_fault u ≡ 0)
      named (inl e) = inr (h ∙ rw e refl)
      named (inr e) = inl (rw (h, e) eighteen)

  -- of another number than the table's and 13: the values' own
  values_exactly : (k : ℕ) → of_table k ≡ false → eqb k 13 ≡ false → eqb k 0 ≡ false
      → write_answer version agents p rows l d room ≡ Answer.Refused k 0 ↔ fault ≡ k
  values_exactly k n o z = (there, back)
    where
      there : write_answer version agents p rows l d room ≡ Answer.Refused k 0 → fault ≡ k
      there w =
          ⊎_elim (λ c. c.1) (⊎_elim (λ c. not_both (table_number c.0 k 0 c.1) n) (λ c. not_both (eq-eqb k 13 c.3) o))
          (refused_out version agents p rows l d room k 0 w)

      back : fault ≡ k → write_answer version agents p rows l d room ≡ Answer.Refused k 0
      back e = values_in version agents p rows l d room (λ q. not_both (eq-eqb k 0 (sym e ∙ q)) z) ∙ ap (λ (x : ℕ). Answer.Refused x 0) e

  -- 2: the version; 3: the counts of agents and rows; 16: an agent's fourth number; 17: the count of dependencies
  pub version_exactly : write_answer version agents p rows l d room ≡ Answer.Refused 2 0 ↔ version_known version ≡ false
  unfolding of_table ◌and◌ ◌or◌
  version_exactly = both (values_exactly 2 refl refl refl) (fault_version version agents p rows l d room)

  pub limits_exactly : write_answer version agents p rows l d room ≡ Answer.Refused 3 0 ↔ (version_known version ≡ true) × (counts_fit agents rows ≡ false)
  unfolding of_table ◌and◌ ◌or◌
  limits_exactly = both (values_exactly 3 refl refl refl) (fault_limits version agents p rows l d room)

  pub numbers_exactly : write_answer version agents p rows l d room ≡ Answer.Refused 16 0
      ↔ (version_known version ≡ true) × (counts_fit agents rows ≡ true) × (numbers_fit version agents p ≡ false)
  unfolding of_table ◌and◌ ◌or◌
  numbers_exactly = both (values_exactly 16 refl refl refl) (fault_numbers version agents p rows l d room)

  pub dependencies_exactly : write_answer version agents p rows l d room ≡ Answer.Refused 17 0
      ↔ (version_known version ≡ true) × (counts_fit agents rows ≡ true) × (numbers_fit version agents p ≡ true) × (dependencies_fit version d.count ≡ false)
  unfolding of_table ◌and◌ ◌or◌
  dependencies_exactly = both (values_exactly 17 refl refl refl) (fault_dependencies version agents p rows l d room)

  -- 5 to 10, 14, 15, 18 to 20: what a fill refuses the table for
  pub table_exactly : (k i : ℕ) → of_table k ≡ true
      → write_answer version agents p rows l d room ≡ Answer.Refused k i ↔ (fault ≡ 0) × (admission true u ≡ Refused k i)
  table_exactly k i n = (there, λ c. table_in_lem version agents p rows l d room k i c.0 c.1)
    where
      there : write_answer version agents p rows l d room ≡ Answer.Refused k i → (fault ≡ 0) × (admission true u ≡ Refused k i)
      there w =
          ⊎_elim (λ c. not_both (subst (λ (x : ℕ). of_table x ≡ true) (sym c.1) n) (fault_apart version agents p rows l d room).0)
          (⊎_elim (λ c. c) (λ c. not_both (subst (λ (x : ℕ). of_table x ≡ true) c.3 n) thirteen)) (refused_out version agents p rows l d room k i w)

  -- 13: all is well but for the buffer, which is shorter than the table
  pub short_exactly : write_answer version agents p rows l d room ≡ Answer.Refused 13 0 ↔ (fault ≡ 0) × Admits u × (room < length u)
  short_exactly = (there, back)
    where
      n : length u ≡ table_size version agents rows d.count
      n = encode_length version agents p rows l d

      there : write_answer version agents p rows l d room ≡ Answer.Refused 13 0 → (fault ≡ 0) × Admits u × (room < length u)
      there w =
          ⊎_elim (λ c. not_both (eq-eqb fault 13 c.1) (fault_apart version agents p rows l d room).1)
          (⊎_elim (λ c. not_both (table_number c.0 13 0 c.1) thirteen) (λ c. (c.0, c.1, let e = n in let h = c.2 in omega arith)))
          (refused_out version agents p rows l d room 13 0 w)

      back : (fault ≡ 0) × Admits u × (room < length u) → write_answer version agents p rows l d room ≡ Answer.Refused 13 0
      back c =
          admitted_in version agents p rows l d room c.0 c.1
          ∙ room_short (table_size version agents rows d.count) room (let e = n in let h = c.2 in omega arith)

  -- written: all is well
  pub written_exactly : (m : ℕ) → write_answer version agents p rows l d room ≡ Answer.Written m ↔ (fault ≡ 0) × Admits u × (m ≡ length u) × (length u ≤ room)
  written_exactly m = (there, back)
    where
      n : length u ≡ table_size version agents rows d.count
      n = encode_length version agents p rows l d

      there : write_answer version agents p rows l d room ≡ Answer.Written m → (fault ≡ 0) × Admits u × (m ≡ length u) × (length u ≤ room)
      there w = let o = written_out version agents p rows l d room m w in (o.0, o.1, o.2 ∙ sym n, let e = n in let h = o.3 in omega arith)

      back : (fault ≡ 0) × Admits u × (m ≡ length u) × (length u ≤ room) → write_answer version agents p rows l d room ≡ Answer.Written m
      back c =
          admitted_in version agents p rows l d room c.0 c.1
          ∙ room_long (table_size version agents rows d.count) room (let e = n in let h = c.3 in omega arith) ∙ ap Answer.Written (sym (c.2 ∙ n))

-- ---- values past their counts

-- make no difference, whatever they are
module _ (version agents : ℕ) (p q : List (List ℕ)) (rows : ℕ) (l k : List Entry) (d e : Dependencies) (alike : Alike agents p q rows l k d e) where
  pub past_bytes : encode version agents p rows l d ≡ encode version agents q rows k e
  past_bytes = encode_alike version agents p q rows l k d e alike

  pub past_answer : (room : ℕ) → write_answer version agents p rows l d room ≡ write_answer version agents q rows k e room
  past_answer = answer_alike version agents p q rows l k d e alike

-- ---- rows out of lent parts

rows_whole : (b : List ℕ) → rows_in b ≤ ROWS → ROW_BYTES * rows_in b ≤ length b
unfolding rows_in capped
rows_whole b few = go (dec_lt (length b / ROW_BYTES) 255) few
  where
    go : Dec (length b / ROW_BYTES < 255) → cond (ltb (length b / ROW_BYTES) 255) (length b / ROW_BYTES) 255 ≤ ROWS
        → ROW_BYTES * cond (ltb (length b / ROW_BYTES) 255) (length b / ROW_BYTES) 255 ≤ length b
    go (yes h) f = rw (lt-ltb (length b / ROW_BYTES) 255 h) (omega arith)
    go (no h) f = absurd (let e = rw (le-ltb (length b / ROW_BYTES) 255 (omega arith)) at f in omega arith)

-- rows that are handed over as their sixteen bytes are written as these
pub parts_rows : (b : List ℕ) → Bytes b → rows_in b ≤ ROWS → rows_part (rows_in b) (entries_in b) ≡ take (ROW_BYTES * rows_in b) b
parts_rows b bytes few = rows_same b bytes (rows_in b) few (rows_whole b few)

-- ---- the same of what `write_parts` is lent, by its own types: bytes and 16-bit numbers. Nothing else is assumed

module _ (version : ℕ) (places rows dependencies : List ℕ) (sixteen : Numbers places) (eight : Bytes rows) (ends : Numbers dependencies) where
  typed_parts : Typed (agents_in places) (places_in places) (rows_in rows) (entries_in rows) (dependencies_in dependencies)
  typed_parts = parts_typed places rows dependencies sixteen eight ends

  module _ (room m : ℕ) (w : parts_answer version places rows dependencies room ≡ Answer.Written m) where
    -- a fill admits what was written, with these counts
    pub parts_admitted : admission true (parts_table version places rows dependencies) ≡ Admitted (agents_in places) (rows_in rows)
    unfolding parts_answer parts_table
    parts_admitted = written_admitted version _ _ _ _ _ typed_parts room m w

    pub parts_version : version_at (parts_table version places rows dependencies) ≡ version
    unfolding parts_table
    parts_version = encode_version version _ _ _ _ _

    -- the same places, rows, sources and dependencies
    pub parts_place : (a : ℕ) → a < agents_in places → place_at (parts_table version places rows dependencies) a ≡ get_or (places_in places) a []
    unfolding parts_answer parts_table
    parts_place = written_place version _ _ _ _ _ typed_parts room m w

    pub parts_row : (i : ℕ) → i < rows_in rows → row_of (row_bytes (parts_table version places rows dependencies)) i ≡ (entry_at (entries_in rows) i).row
    unfolding parts_answer parts_table
    parts_row = written_row version _ _ _ _ _ typed_parts room m w

    pub parts_source : (i : ℕ) → i < rows_in rows → sources_of (parts_table version places rows dependencies) i ≡ (entry_at (entries_in rows) i).source.0
    unfolding parts_answer parts_table
    parts_source = written_source version _ _ _ _ _ typed_parts room m w

    pub parts_count : dependency_count (dependency_bytes (parts_table version places rows dependencies)) ≡ (dependencies_in dependencies).count
    unfolding parts_answer parts_table
    parts_count = written_count version _ _ _ _ _ typed_parts room m w

    pub parts_dependency : (k : ℕ) → k < (dependencies_in dependencies).count
        → (dependency_from (dependency_bytes (parts_table version places rows dependencies)) k ≡ get_or (dependencies_in dependencies).first k 0)
        × (dependency_to (dependency_bytes (parts_table version places rows dependencies)) k ≡ get_or (dependencies_in dependencies).second k 0)
    unfolding parts_answer parts_table
    parts_dependency = written_dependency version _ _ _ _ _ typed_parts room m w

    pub parts_buffer : (out : List ℕ)
        → (take m (buffer_after (parts_answer version places rows dependencies room) (parts_table version places rows dependencies) out)
        ≡ parts_table version places rows dependencies)
        × (drop m (buffer_after (parts_answer version places rows dependencies room) (parts_table version places rows dependencies) out) ≡ drop m out)
    unfolding parts_answer parts_table
    parts_buffer = written_buffer version _ _ _ _ _ typed_parts room m w

    -- and `read_parts` gives it back, in parts that are long enough, whatever they held: the version, the counts, and the numbers and
    -- bytes that were handed over
    module _ (p b e : List ℕ) (fit : lent_fit (length p) (length b) (length e) ≡ true) where
      abbrev written : List ℕ
      written = parts_table version places rows dependencies

      abbrev given : ReadAnswer
      given = read_answer written (length p) (length b) (length e)

      fitting : Fits version (agents_in places) (places_in places) (rows_in rows) (dependencies_in dependencies).count
      unfolding parts_answer
      fitting = values_fit version _ _ _ _ (written_out version _ _ _ _ _ room m w).0

      pub parts_given : given ≡ Given.Read version (agents_in places) (rows_in rows) (dependencies_in dependencies).count
      unfolding parts_table
      parts_given =
          given_in written (length p) (length b) (length e) 0 0 0 0 fit (admitted_sound true written parts_admitted)
          ∙ rw (
            encode_version version _ _ _ _ _,
            encode_agents version _ _ _ _ _,
            encode_rows version _ _ _ _ _,
            encode_count version _ _ _ _ _ fitting typed_parts,
          ) refl

      pub parts_places_given : take (PLACE_NUMBERS * agents_in places) (places_after given written p) ≡ take (PLACE_NUMBERS * agents_in places) places
      unfolding parts_table
      parts_places_given =
          ap (λ (x : List ℕ). take (PLACE_NUMBERS * agents_in places) x) (places_after_lem written _ _ _ _ parts_given p)
          ∙ fronted_front (place_numbers (places_of written) (agents_in places)) p _ (numbers_long (places_of written) (agents_in places))
          ∙ places_back version places rows dependencies eight typed_parts fitting

      pub parts_rows_given : take (ROW_BYTES * rows_in rows) (rows_after given written b) ≡ take (ROW_BYTES * rows_in rows) rows
      unfolding parts_table
      parts_rows_given =
          ap (λ (x : List ℕ). take (ROW_BYTES * rows_in rows) x) (rows_after_lem written _ _ _ _ parts_given b)
          ∙ fronted_front (rows_part (rows_in rows) (entries_of written)) b _ (rows_length (rows_in rows) (entries_of written))
          ∙ rows_back version places rows dependencies eight typed_parts fitting

      pub parts_dependencies_given : take (2 * (dependencies_in dependencies).count) (dependencies_after given written e)
          ≡ take (2 * (dependencies_in dependencies).count) dependencies
      unfolding parts_table
      parts_dependencies_given =
          let long = ends_long (dependencies_of written)
          ∙ ap (λ (x : ℕ). 2 * x) (count_back version places rows dependencies eight typed_parts fitting)
          in
          ap (λ (x : List ℕ). take (2 * (dependencies_in dependencies).count) x) (dependencies_after_lem written _ _ _ _ parts_given e)
          ∙ fronted_front (end_numbers (dependencies_of written)) e _ long ∙ ends_back version places rows dependencies eight typed_parts fitting

-- ---- what `read_parts` gives of any bytes, into parts that held p, b and e

module _ (s p b e : List ℕ) where
  abbrev back : ReadAnswer
  back = read_answer s (length p) (length b) (length e)

  -- a refusal writes nothing
  pub unread_parts : (k i : ℕ) → back ≡ Given.Refused k i → (places_after back s p ≡ p) × (rows_after back s b ≡ b) × (dependencies_after back s e ≡ e)
  unfolding places_after rows_after dependencies_after
  unread_parts k i r = rw r (refl, refl, refl)

  module _ (v a n m : ℕ) (r : back ≡ Given.Read v a n m) where
    abbrev P : List ℕ
    P = take (PLACE_NUMBERS * a) (places_after back s p)

    abbrev B : List ℕ
    B = take (ROW_BYTES * n) (rows_after back s b)

    abbrev E : List ℕ
    E = take (2 * m) (dependencies_after back s e)

    read_sound : Sound true s
    read_sound = (given_out s (length p) (length b) (length e) v a n m r).0

    -- a fill admits the table, and these are its version and counts
    pub read_counts : (v ≡ version_at s) × (a ≡ agents_at s) × (n ≡ rows_at s) × (m ≡ dependency_count (dependency_bytes s))
    read_counts = let o = given_out s (length p) (length b) (length e) v a n m r in (o.1, o.2, o.3, o.4)

    pub read_admitted : admission true s ≡ Admitted a n
    read_admitted = sound_admitted true s read_sound ∙ rw (← read_counts.1, ← read_counts.2) refl

    ends_count : length (end_numbers (dependencies_of s)) ≡ 2 * m
    unfolding dependencies_of
    ends_count = ends_long (dependencies_of s) ∙ ap (λ (x : ℕ). 2 * x) (sym read_counts.3)

    places_front : P ≡ place_numbers (places_of s) (agents_at s)
    places_front =
        ap (λ (x : List ℕ). take (PLACE_NUMBERS * a) x) (places_after_lem s v a n m r p)
        ∙ fronted_front (place_numbers (places_of s) a) p _ (numbers_long (places_of s) a)
        ∙ ap (λ (x : ℕ). place_numbers (places_of s) x) read_counts.1

    rows_front : B ≡ rows_part (rows_at s) (entries_of s)
    rows_front =
        ap (λ (x : List ℕ). take (ROW_BYTES * n) x) (rows_after_lem s v a n m r b)
        ∙ fronted_front (rows_part n (entries_of s)) b _ (rows_length n (entries_of s))
        ∙ ap (λ (x : ℕ). rows_part x (entries_of s)) read_counts.2

    ends_front : E ≡ end_numbers (dependencies_of s)
    ends_front =
        ap (λ (x : List ℕ). take (2 * m) x) (dependencies_after_lem s v a n m r e)
        ∙ fronted_front (end_numbers (dependencies_of s)) e _ ends_count

    -- what stood after the values stays
    pub read_rest : (drop (PLACE_NUMBERS * a) (places_after back s p) ≡ drop (PLACE_NUMBERS * a) p)
        × (drop (ROW_BYTES * n) (rows_after back s b) ≡ drop (ROW_BYTES * n) b)
        × (drop (2 * m) (dependencies_after back s e) ≡ drop (2 * m) e)
    read_rest = (
      ap (λ (x : List ℕ). drop (PLACE_NUMBERS * a) x) (places_after_lem s v a n m r p)
          ∙ fronted_rest (place_numbers (places_of s) a) p _ (numbers_long (places_of s) a),
      ap (λ (x : List ℕ). drop (ROW_BYTES * n) x) (rows_after_lem s v a n m r b)
          ∙ fronted_rest (rows_part n (entries_of s)) b _ (rows_length n (entries_of s)),
      ap (λ (x : List ℕ). drop (2 * m) x) (dependencies_after_lem s v a n m r e)
          ∙ fronted_rest (end_numbers (dependencies_of s)) e _ ends_count,
    )

    module _ (bytes : Bytes s) where
      -- the rows are their own sixteen bytes each
      pub read_rows : B ≡ row_bytes s
      read_rows = rows_front ∙ rows_given read_sound bytes

      -- `write_parts` of what was read gives the same bytes, and so it does with a buffer that is long enough
      pub read_again : parts_table v P B E ≡ s
      read_again =
          ap (λ (x : ℕ). parts_table x P B E) read_counts.0 ∙ rw (places_front, rows_front, ends_front) (table_again read_sound bytes)

      pub read_written_again : (room : ℕ) → length s ≤ room → parts_answer v P B E room ≡ Answer.Written (length s)
      read_written_again room h =
          ap (λ (x : ℕ). parts_answer x P B E room) read_counts.0
          ∙ rw (places_front, rows_front, ends_front) (answer_again read_sound bytes room)
          ∙ read_written s bytes (_, _, sound_admitted true s read_sound) room h
