-- The numbers of the functions about rows and bytes (open, row, row2, write, read), read back. Assumes nothing.
use Rattle.std.specs.Prelude.{◌≡◌, Bool, true, false, cond, List, length, ltb, leb, eqb}
use Rattle.std.specs.declared.option.Option.{Option}
use Rattle.std.specs.declared.option.Option.TheVariants.{None, Some}
use Rattle.std.proofs.Math.Path.{refl}
use Rattle.std.proofs.Common.{sym, ap, ◌∙◌, arith, eqb-true, leb-true, ltb-true}
use Prim.Native.Nat.{ℕ, ◌+◌, ◌-◌, ◌*◌, ◌≤◌, ◌<◌}
use Rattle.std.proofs.Math.Decide.{dec_lt}
use Rattle.finite.specs.Logic.{split}
use Rattle.model.specs.declared.Admission.{Admission}
use Rattle.model.specs.declared.Admission.TheVariants as admit
use Rattle.model.specs.Limits.{ROWS, AGENTS}
use Rattle.model.specs.Table.{dependency_count}
use Rattle.model.specs.Header.{HEADER, VERSION_HOSTS, ROW_BYTES, version_at, agents_at, rows_at, has_hosts, rows_begin, dependency_bytes}
use Rattle.model.specs.Refusal.{shape_or, version_fits, limits_fit, length_fits, hosts_fault, header_fault, admission, when_admitted}
use Rattle.model_laws.specs.AdmissionLaws.{sound_admitted, admitted_sound, agents_fit, rows_fit, dependencies_fit_lem}
use Rattle.model.specs.Refusal.{shape_fault}
use Rattle.door_pieces.specs.declared.RowPlace.TheVariants as place
use Rattle.door_pieces.specs.Pieces.{rows_both, pieces_fault, early_fault, row_place}
use Rattle.door_pieces.specs.PiecesLaws.{first_right, both_fit, early_pieces}
use Rattle.door_write.specs.declared.Dependencies.{Dependencies}
use Rattle.model.specs.declared.Entry.{Entry}
use Rattle.door_write.specs.Answer as written
use Rattle.door_write.specs.Encode.{with_hosts, places_size, dependencies_size, table_size, encode}
use Rattle.door_write.specs.Answer.{version_known, counts_fit, numbers_fit, dependencies_fit, values_fault, room_answer, write_answer}
use Rattle.door_write.specs.Parts.{parts_answer}
use Rattle.door_write.specs.Read as values
use Rattle.door_write.specs.Read.{lent_fit, read_answer}
use Rattle.door_step.specs.Steps as step
use Rattle.door_step.specs.Steps.{stepped_at}
use Rattle.door_step.specs.Promise.{from_refused, from_row_lem, from_end}
use Rattle.model_promises.specs.Bounds.{SMALL, admission_small}
use Rattle.stramashly.specs.Packed.{packed, pack_open, pack_step, pack_write, pack_read, pack_place, row_answer}
use Rattle.stramashly_numbers.specs.Reading.{A, reads_back, RowSaid, said_of, SmallAdmission, SmallStep, SmallWrite, SmallValues, SmallPlace, row_by}
use Rattle.stramashly_numbers.specs.Reading.{read_open, read_row, read_write, read_values, read_place, open_back, row_back, write_back, values_back, place_back}

-- ---- an opened table

admission_fits : (blanks : Bool) (s : List ℕ) (x : Admission) → admission blanks s ≡ x → SmallAdmission x
admission_fits blanks s (admit.Refused n i) e =
    let h = admission_small blanks s n i e in
    let p = h.0 in
    let q = h.1 in
    (omega arith, omega arith)
admission_fits blanks s (admit.Admitted a n) e =
    let ok = admitted_sound blanks s e in
    let is = sym (sound_admitted blanks s ok) ∙ e in
    let p : agents_at s ≡ a = ap agents is in
    let q : rows_at s ≡ n = ap rows is in
    let u = agents_fit ok in
    let v = rows_fit ok in
    (omega arith, omega arith)
  where
    agents : Admission → ℕ
    agents (admit.Refused x y) = 0
    agents (admit.Admitted x y) = x

    rows : Admission → ℕ
    rows (admit.Refused x y) = 0
    rows (admit.Admitted x y) = y

pub open_reads : (s : List ℕ) → read_open (pack_open (admission true s)) ≡ admission true s
open_reads s = open_back (admission true s) (admission_fits true s _ refl)

-- ---- a step, at a place that C can hand in

step_fits : (s : List ℕ) (i : ℕ) → i < SMALL → SmallStep (stepped_at s i)
step_fits s i l = go (admission true s) refl
  where
    go : (a : Admission) → admission true s ≡ a → SmallStep (stepped_at s i)
    go (admit.Refused n j) e = rw (from_refused s n j e i) (admission_fits true s (admit.Refused n j) e)
    go (admit.Admitted a n) e = at (dec_lt i n)
      where
        at : Dec (i < n) → SmallStep (stepped_at s i)
        at (yes k) = let m = (admission_fits true s (admit.Admitted a n) e).1 in rw (from_row_lem s a n e i k) (few i n k m)
          where
            few : (i n : ℕ) → i < n → n < SMALL → i + 1 < SMALL
            few i n k m = omega arith
        at (no k) = rw (from_end s a n e i (omega arith)) l

-- what of an answer of `stramashly_row` is in the number, for a buffer of so many bytes
unfoldable pub row_said : List ℕ → ℕ → ℕ → RowSaid
row_said s i room = cond (leb ROW_BYTES room) (said_of (stepped_at s i)) (RowSaid.refused 11 0)

pub row_reads : (s : List ℕ) (i room : ℕ) → i < SMALL → read_row (row_answer s i room) ≡ row_said s i room
unfolding row_answer row_said row_by
row_reads s i room l = go (leb ROW_BYTES room)
  where
    go : (b : Bool) → read_row (cond b (pack_step (stepped_at s i)) (packed 4 11 0 0)) ≡ cond b (said_of (stepped_at s i)) (RowSaid.refused 11 0)
    go true = row_back (stepped_at s i) (step_fits s i l)
    go false = let p = reads_back 4 11 0 0 (omega arith) (omega arith) (omega arith) in rw (p.0, p.1, p.2) refl

-- ---- where a row of two pieces begins

shape_agents : (f : List ℕ) → shape_fault f ≡ 0 → agents_at f ≤ AGENTS
unfolding shape_fault limits_fit shape_or
shape_agents f e = leb-true (agents_at f) AGENTS (split (go (leb HEADER (length f)) (version_fits f) (limits_fit f) (length_fits f) e)).0
  where
    go : (a b c d : Bool) → ◌≡◌ {A = ℕ} (cond a (cond b (cond c (cond d 0 4) 3) 2) 1) 0 → c ≡ true
    go true true true d q = refl
    go true true false d q = absurd (omega arith)
    go true false c d q = absurd (omega arith)
    go false b c d q = absurd (omega arith)

begin_fits : (f : List ℕ) → agents_at f ≤ AGENTS → rows_begin f ≤ 264
unfolding rows_begin
begin_fits f l = go (has_hosts f)
  where
    go : (b : Bool) → cond b (8 + 8 * agents_at f) (8 + 6 * agents_at f) ≤ 264
    go true = omega arith
    go false = omega arith

rows_less : (f s : List ℕ) → rows_at f ≤ rows_both f s
unfolding rows_both
rows_less f s = omega arith

place_fits : (f s : List ℕ) (n : ℕ) → SmallPlace (row_place f s n)
unfolding row_place
place_fits f s n = go (eqb (early_fault f s) 0) refl (ltb n (rows_at f)) refl (ltb n (rows_both f s)) refl
  where
    fit : eqb (early_fault f s) 0 ≡ true → pieces_fault f s ≡ 0
    fit e = early_pieces f s (early_fault f s) refl (eqb-true (early_fault f s) 0 e)

    go : (a : Bool) → eqb (early_fault f s) 0 ≡ a → (b : Bool) → ltb n (rows_at f) ≡ b → (c : Bool) → ltb n (rows_both f s) ≡ c
        → SmallPlace (cond a (cond b (Some (place.First (rows_begin f + ROW_BYTES * n))) (cond c (Some (place.Second (ROW_BYTES * (n - rows_at f)))) None)) None)
    go true e true l c m =
        let h = begin_fits f (shape_agents f (first_right f s (fit e))) in
        let k = ltb-true n (rows_at f) l in
        let q = both_fit f s (fit e) in
        let r = rows_less f s in
        omega arith
    go true e false l true m =
        let k = ltb-true n (rows_both f s) m in
        let q = both_fit f s (fit e) in
        omega arith
    go true e false l false m = tt
    go false e b l c m = tt

pub row2_reads : (f s : List ℕ) (n : ℕ) → read_place (pack_place (row_place f s n)) ≡ row_place f s n
row2_reads f s n = place_back (row_place f s n) (place_fits f s n)

-- ---- a table that was written

values_most : (version agents : ℕ) (p : List (List ℕ)) (rows n : ℕ) → values_fault version agents p rows n ≤ 17
unfolding values_fault
values_most version agents p rows n = go (version_known version) (counts_fit agents rows) (numbers_fit version agents p) (dependencies_fit version n)
  where
    go : (a b c d : Bool) → cond {A = ℕ} a (cond b (cond c (cond d 0 17) 16) 3) 2 ≤ 17
    go true true true true = omega arith
    go true true true false = omega arith
    go true true false d = omega arith
    go true false c d = omega arith
    go false b c d = omega arith

values_fit : (version agents : ℕ) (p : List (List ℕ)) (rows n : ℕ) → values_fault version agents p rows n ≡ 0
    → (counts_fit agents rows ≡ true) × (dependencies_fit version n ≡ true)
unfolding values_fault
values_fit version agents p rows n = go (version_known version) (counts_fit agents rows) (numbers_fit version agents p) (dependencies_fit version n)
  where
    go : (a b c d : Bool) → ◌≡◌ {A = ℕ} (cond a (cond b (cond c (cond d 0 17) 16) 3) 2) 0 → (b ≡ true) × (d ≡ true)
    go true true true true q = (refl, refl)
    go true true true false q = absurd (omega arith)
    go true true false d q = absurd (omega arith)
    go true false c d q = absurd (omega arith)
    go false b c d q = absurd (omega arith)

size_small : (version agents : ℕ) (p : List (List ℕ)) (rows n : ℕ) → values_fault version agents p rows n ≡ 0 → table_size version agents rows n < SMALL
unfolding table_size places_size dependencies_size counts_fit dependencies_fit
size_small version agents p rows n e =
    let h = values_fit version agents p rows n e in
    let c = split h.0 in
    go (with_hosts version) (leb-true agents AGENTS c.0) (leb-true rows ROWS c.1) (leb-true n (cond (with_hosts version) 64 0) h.1)
  where
    go : (b : Bool) → agents ≤ AGENTS → rows ≤ ROWS → n ≤ cond b 64 0
        → 8 + cond b (8 * agents) (6 * agents) + 16 * rows + cond b (2 + 4 * n) 0 < SMALL
    go true x y z = omega arith
    go false x y z = omega arith

module _ (version agents : ℕ) (p : List (List ℕ)) (rows : ℕ) (l : List Entry) (d : Dependencies) (room : ℕ) where
  write_fits : SmallWrite (write_answer version agents p rows l d room)
  unfolding write_answer when_admitted room_answer
  write_fits = go (eqb (values_fault version agents p rows d.count) 0) refl
    where
      size : ℕ
      size = table_size version agents rows d.count

      room_fits : values_fault version agents p rows d.count ≡ 0 → (b : Bool) → SmallWrite (cond b (written.Written size) (written.Refused 13 0))
      room_fits e true = size_small version agents p rows d.count e
      room_fits e false = (omega arith, omega arith)

      then : values_fault version agents p rows d.count ≡ 0 → (a : Admission) → admission true (encode version agents p rows l d) ≡ a
          → SmallWrite (when_admitted written.Refused a (room_answer size room))
      then e (admit.Refused n i) q = admission_fits true (encode version agents p rows l d) (admit.Refused n i) q
      then e (admit.Admitted a n) q = room_fits e (leb size room)

      go : (b : Bool) → eqb (values_fault version agents p rows d.count) 0 ≡ b
          → SmallWrite (cond b (when_admitted written.Refused (admission true (encode version agents p rows l d)) (room_answer size room))
          (written.Refused (values_fault version agents p rows d.count) 0))
      go true e = then (eqb-true (values_fault version agents p rows d.count) 0 e) (admission true (encode version agents p rows l d)) refl
      go false e = let h = values_most version agents p rows d.count in (omega arith, omega arith)

pub write_reads : (version : ℕ) (places rows dependencies : List ℕ) (room : ℕ) → let a = parts_answer version places rows dependencies room in
    read_write (pack_write a) ≡ a
unfolding parts_answer
write_reads version places rows dependencies room = write_back _ (write_fits version _ _ _ _ _ room)

-- ---- the values of a table that were read

header_version : (s : List ℕ) → header_fault s ≡ 0 → version_at s ≤ VERSION_HOSTS
unfolding header_fault version_fits shape_or
header_version s e =
    leb-true (version_at s) VERSION_HOSTS (split (split (go (leb HEADER (length s)) (version_fits s) (limits_fit s) (length_fits s) (hosts_fault s) e)).0).1
  where
    go : (a b c d : Bool) (n : ℕ) → ◌≡◌ {A = ℕ} (cond a (cond b (cond c (cond d n 4) 3) 2) 1) 0 → b ≡ true
    go true true c d n q = refl
    go true false c d n q = absurd (omega arith)
    go false b c d n q = absurd (omega arith)

read_fits : (s : List ℕ) (places rows dependencies : ℕ) → SmallValues (read_answer s places rows dependencies)
unfolding read_answer when_admitted
read_fits s places rows dependencies = go (lent_fit places rows dependencies) (admission true s) refl
  where
    go : (b : Bool) (a : Admission) → admission true s ≡ a
        → SmallValues (cond b
        (when_admitted values.Refused a (values.Read (version_at s) (agents_at s) (rows_at s) (dependency_count (dependency_bytes s)))) (values.Refused 11 0))
    go false a e = (omega arith, omega arith)
    go true (admit.Refused n i) e = admission_fits true s (admit.Refused n i) e
    go true (admit.Admitted a n) e =
        let ok = admitted_sound true s e in
        let x = agents_fit ok in
        let y = rows_fit ok in
        let z = dependencies_fit_lem ok in
        let v = header_version s ok.header in
        (omega arith, omega arith, omega arith, omega arith)

pub read_reads : (s : List ℕ) (places rows dependencies : ℕ) → let a = read_answer s places rows dependencies in read_values (pack_read a) ≡ a
read_reads s places rows dependencies = values_back _ (read_fits s places rows dependencies)
