-- What was read from a table, written, gives its bytes again; what was written reads back as it was handed over. Assumes nothing.
use Rattle.std.specs.Prelude.{◌≡◌, ℕ, zero, suc, ◌+◌, ◌*◌, ◌/◌, ◌%◌, ◌≤◌, ◌<◌, take, drop, ltb}
use Rattle.std.proofs.Math.Path.{refl, sym, ap}
use Rattle.std.proofs.Common.{◌∙◌, subst, take_at, drop_at, get_or-take, lt-ltb, le-ltb, eq-eqb, ne_eqb}
use Rattle.std.proofs.Math.Bool.{Bool, true, false, cond}
use Rattle.std.proofs.Math.Logic.{⊎_elim}
use mathlib.Core.List.{List, []}
use native.Mathlib.Omega.{arith}
use Rattle.std.proofs.Math.Decide.{dec_lt}
use Rattle.std.proofs.Math.ListN.{length, get_or, length-take}
use Rattle.std.proofs.Math.Seq.{take_all}
use Rattle.finite.specs.Logic.{which}
use Rattle.finite.specs.Lists.{tabulate, length_tabulate, get_d_tabulate}
use Rattle.model.specs.Limits.{AGENTS, ROWS, DEPENDENCIES}
use Rattle.model.specs.Header.{ROW_BYTES, version_at, agents_at, rows_at, has_hosts, shader_place_at, any_place_at, place_at, places_of, row_bytes}
use Rattle.model.specs.Table.{dependency_count, dependency_from, dependency_to}
use Rattle.model.specs.Header.{dependency_bytes}
use Rattle.model_laws.specs.FilledLaws.{Bytes}
use Rattle.model.specs.declared.Admission.{Admission}
use Rattle.model.specs.declared.Admission.TheVariants.{Admitted, Refused}
use Rattle.model.specs.Refusal.{admission, when_admitted}
use Rattle.model_laws.specs.AdmissionLaws.{Sound, sound_admitted, admitted_sound, agents_fit, rows_fit, dependencies_fit_lem}
use Rattle.door_write.specs.declared.Dependencies.{Dependencies}
use Rattle.door_write.specs.Encode.{number_of, rows_part, encode, entries_in, entries_of, dependencies_of}
use Rattle.door_write.specs.Parts.{PLACE_NUMBERS, capped, agents_in, place_in, places_in, rows_in, end_in, dependencies_in, parts_answer, parts_table}
use Rattle.door_write.specs.Read.{ReadAnswer}
use Rattle.door_write.specs.Read as Given
use Rattle.door_write.specs.Read.{place_number_at, place_numbers, end_of, end_numbers, fronted, lent_fit, read_answer, places_after, rows_after, dependencies_after}
use Rattle.door_write.specs.ValueLaws.{Fits, agents_few, rows_few, after_few, rows_length}
use Rattle.door_write.specs.EncodeLaws.{Typed, four_of, encode_part, encode_slot, encode_count, encode_from, encode_to}
use Rattle.door_write.specs.ReadLaws.{front_small, tabulated, rows_same, slot_is, row_small, rows_long, written_again}
use Rattle.door_write.specs.PartsLaws.{place_is}
use Rattle.door_write.specs.PastLaws.{Alike, encode_alike, answer_alike}
use Rattle.door_write.specs.Answer.{write_answer}

-- ---- an answer taken apart

not_read : {A : Type 0} {k i v a n m : ℕ} → Given.Refused k i ≡ Given.Read v a n m → A
not_read e = let z : ◌≡◌ {A = ℕ} 0 1 = ap which_one e in absurd (omega arith)
  where
    which_one : ReadAnswer → ℕ
    which_one (Given.Refused k i) = 0
    which_one (Given.Read v a n m) = 1

abbrev version_of : ReadAnswer → ℕ
version_of (Given.Refused k i) = 0
version_of (Given.Read v a n m) = v

abbrev agents_of : ReadAnswer → ℕ
agents_of (Given.Refused k i) = 0
agents_of (Given.Read v a n m) = a

abbrev rows_of : ReadAnswer → ℕ
rows_of (Given.Refused k i) = 0
rows_of (Given.Read v a n m) = n

abbrev count_of : ReadAnswer → ℕ
count_of (Given.Refused k i) = 0
count_of (Given.Read v a n m) = m

module _ (s : List ℕ) (P B E v a n m : ℕ) where
  abbrev values : ReadAnswer
  values = Given.Read (version_at s) (agents_at s) (rows_at s) (dependency_count (dependency_bytes s))

  -- a fill admits the table, and these are its version and counts
  pub given_out : read_answer s P B E ≡ Given.Read v a n m
      → Sound true s × (v ≡ version_at s) × (a ≡ agents_at s) × (n ≡ rows_at s) × (m ≡ dependency_count (dependency_bytes s))
  unfolding read_answer when_admitted
  given_out r = ⊎_elim (λ f. go (admission true s) refl (subst T f r)) (λ f. not_read (subst T f r)) (which (lent_fit P B E))
    where
      T : Bool → Type 0
      T b = cond b (when_admitted Given.Refused (admission true s) values) (Given.Refused 11 0) ≡ Given.Read v a n m

      go : (x : Admission) → admission true s ≡ x → when_admitted Given.Refused x values ≡ Given.Read v a n m
          → Sound true s × (v ≡ version_at s) × (a ≡ agents_at s) × (n ≡ rows_at s) × (m ≡ dependency_count (dependency_bytes s))
      go (Refused k i) q e = not_read e
      go (Admitted y z) q e = (
        admitted_sound true s q,
        sym (ap version_of e),
        sym (ap agents_of e),
        sym (ap rows_of e),
        sym (ap count_of e),
      )

  -- of a table that a fill admits, in parts that are long enough
  pub given_in : lent_fit P B E ≡ true → Sound true s → read_answer s P B E ≡ values
  unfolding read_answer when_admitted
  given_in f sound = rw (f, sound_admitted true s sound) refl

-- what the lent parts hold
module _ (s : List ℕ) {w : ReadAnswer} (v a n m : ℕ) (r : w ≡ Given.Read v a n m) (out : List ℕ) where
  pub places_after_lem : places_after w s out ≡ fronted (place_numbers (places_of s) a) out
  unfolding places_after
  places_after_lem = rw r refl

  pub rows_after_lem : rows_after w s out ≡ fronted (rows_part n (entries_of s)) out
  unfolding rows_after
  rows_after_lem = rw r refl

  pub dependencies_after_lem : dependencies_after w s out ≡ fronted (end_numbers (dependencies_of s)) out
  unfolding dependencies_after
  dependencies_after_lem = rw r refl

-- the front of a buffer that was written to, and the rest
pub fronted_front : (l out : List ℕ) (n : ℕ) → length l ≡ n → take n (fronted l out) ≡ l
unfolding fronted
fronted_front l out n e = take_at l (drop (length l) out) n e

pub fronted_rest : (l out : List ℕ) (n : ℕ) → length l ≡ n → drop n (fronted l out) ≡ drop n out
unfolding fronted
fronted_rest l out n e = drop_at l (drop (length l) out) n e ∙ ap (λ (x : ℕ). drop x out) e

-- ---- how many parts of a list there are

capped_is : (n most : ℕ) → n < most → capped n most ≡ n
unfolding capped
capped_is n most h = rw (lt-ltb n most h) refl

capped_below : (n most : ℕ) → capped n most ≤ n
unfolding capped
capped_below n most = go (dec_lt n most)
  where
    go : Dec (n < most) → cond (ltb n most) n most ≤ n
    go (yes l) = rw (lt-ltb n most l) (omega arith)
    go (no h) = rw (le-ltb n most (omega arith)) (omega arith)

agents_counted : (q : List ℕ) (n : ℕ) → length q ≡ PLACE_NUMBERS * n → n ≤ AGENTS → agents_in q ≡ n
unfolding agents_in
agents_counted q n e few = let h : length q / PLACE_NUMBERS ≡ n = omega arith in rw h (capped_is n 255 (omega arith))

rows_counted : (b : List ℕ) (n : ℕ) → length b ≡ ROW_BYTES * n → n ≤ ROWS → rows_in b ≡ n
unfolding rows_in
rows_counted b n e few = let h : length b / ROW_BYTES ≡ n = omega arith in rw h (capped_is n 255 (omega arith))

ends_counted : (q : List ℕ) (n : ℕ) → length q ≡ 2 * n → n ≤ DEPENDENCIES → (dependencies_in q).count ≡ n
unfolding dependencies_in
ends_counted q n e few = let h : length q / 2 ≡ n = omega arith in rw h (capped_is n 65535 (omega arith))

-- ---- places, as their numbers

pub numbers_long : (p : List (List ℕ)) (n : ℕ) → length (place_numbers p n) ≡ PLACE_NUMBERS * n
unfolding place_numbers
numbers_long p n = length_tabulate (place_number_at p) (PLACE_NUMBERS * n)

module _ (p : List (List ℕ)) (n : ℕ) where
  number_at : (x m : ℕ) → x < n → m < PLACE_NUMBERS → get_or (place_numbers p n) (x * PLACE_NUMBERS + m) 0 ≡ get_or (get_or p x []) m 0
  unfolding place_numbers place_number_at number_of
  number_at x m l k =
      let a : (x * PLACE_NUMBERS + m) / PLACE_NUMBERS ≡ x = omega arith in
      let b : (x * PLACE_NUMBERS + m) % PLACE_NUMBERS ≡ m = omega arith in
      get_d_tabulate (place_number_at p) (PLACE_NUMBERS * n) (x * PLACE_NUMBERS + m) 0 (omega arith) ∙ rw (a, b) refl

  place_back : (x : ℕ) → x < n → length (get_or p x []) ≡ PLACE_NUMBERS → place_in (place_numbers p n) x ≡ get_or p x []
  unfolding place_in
  place_back x l four =
      rw (
        number_at x 0 l (omega arith),
        number_at x 1 l (omega arith),
        number_at x 2 l (omega arith),
        number_at x 3 l (omega arith),
      )
      (four_of (get_or p x []) four)

-- the numbers that a place was made of
place_number_lem : (q : List ℕ) (x m : ℕ) → m < PLACE_NUMBERS → get_or (place_in q x) m 0 ≡ get_or q (x * PLACE_NUMBERS + m) 0
unfolding place_in
place_number_lem q x zero h = refl
place_number_lem q x (suc zero) h = refl
place_number_lem q x (suc (suc zero)) h = refl
place_number_lem q x (suc (suc (suc zero))) h = refl
place_number_lem q x (suc (suc (suc (suc m)))) h = absurd (omega arith)

-- ---- dependencies, as their numbers

pub ends_long : (d : Dependencies) → length (end_numbers d) ≡ 2 * d.count
unfolding end_numbers
ends_long d = length_tabulate (end_of d) (2 * d.count)

module _ (d : Dependencies) where
  end_even : (k : ℕ) → k % 2 ≡ 0 → end_of d k ≡ get_or d.first (k / 2) 0
  unfolding end_of
  end_even k e = rw (eq-eqb (k % 2) 0 e) refl

  end_odd : (k : ℕ) → (k % 2 ≡ 0 → ⊥) → end_of d k ≡ get_or d.second (k / 2) 0
  unfolding end_of
  end_odd k e = rw (ne_eqb (k % 2) 0 e) refl

  end_at : (k : ℕ) → k < 2 * d.count → get_or (end_numbers d) k 0 ≡ end_of d k
  unfolding end_numbers
  end_at k l = get_d_tabulate (end_of d) (2 * d.count) k 0 l

  first_back : (k : ℕ) → k < d.count → end_in (end_numbers d) 0 k ≡ get_or d.first k 0
  unfolding end_in
  first_back k l =
      let h : (k * 2 + 0) / 2 ≡ k = omega arith in
      end_at (k * 2 + 0) (omega arith) ∙ end_even (k * 2 + 0) (omega arith) ∙ ap (λ (x : ℕ). get_or d.first x 0) h

  second_back : (k : ℕ) → k < d.count → end_in (end_numbers d) 1 k ≡ get_or d.second k 0
  unfolding end_in
  second_back k l =
      let h : (k * 2 + 1) / 2 ≡ k = omega arith in
      end_at (k * 2 + 1) (omega arith) ∙ end_odd (k * 2 + 1) (λ q. omega arith) ∙ ap (λ (x : ℕ). get_or d.second x 0) h

-- ---- what was read, written

module _ {s : List ℕ} (sound : Sound true s) (small : Bytes s) where
  abbrev P : List ℕ
  P = place_numbers (places_of s) (agents_at s)

  abbrev B : List ℕ
  B = rows_part (rows_at s) (entries_of s)

  abbrev E : List ℕ
  E = end_numbers (dependencies_of s)

  -- the rows are their own bytes
  pub rows_given : B ≡ row_bytes s
  unfolding entries_of
  rows_given =
      let n = rows_long sound small in
      rows_same (row_bytes s) (row_small sound small) (rows_at s) (rows_fit sound) (omega arith) ∙ take_all (ROW_BYTES * rows_at s) (row_bytes s) (omega arith)

  place_long : (x : ℕ) → length (place_at s x) ≡ PLACE_NUMBERS
  unfolding place_at shader_place_at any_place_at
  place_long x = go (has_hosts s)
    where
      go : (b : Bool) → length (cond b (any_place_at s x) (shader_place_at s x)) ≡ PLACE_NUMBERS
      go true = refl
      go false = refl

  place_same : (x : ℕ) → x < agents_at s → get_or (places_in P) x [] ≡ get_or (places_of s) x []
  place_same x l =
      let few = agents_fit sound in
      place_is P x (omega arith) ∙ place_back (places_of s) (agents_at s) x l (ap length (slot_is sound x l) ∙ place_long x)

  pub count_is : (dependencies_of s).count ≡ dependency_count (dependency_bytes s)
  unfolding dependencies_of
  count_is = refl

  few_ends : (dependencies_of s).count ≤ DEPENDENCIES
  few_ends = let h = dependencies_fit_lem sound in let e = count_is in omega arith

  count_same : (dependencies_in E).count ≡ (dependencies_of s).count
  count_same = ends_counted E (dependencies_of s).count (ends_long (dependencies_of s)) few_ends

  first_same : (k : ℕ) → k < (dependencies_in E).count → get_or (dependencies_in E).first k 0 ≡ get_or (dependencies_of s).first k 0
  unfolding dependencies_in
  first_same k l =
      let few = few_ends in
      let e = count_same in
      get_d_tabulate (end_in E 0) DEPENDENCIES k 0 (omega arith) ∙ first_back (dependencies_of s) k (omega arith)

  second_same : (k : ℕ) → k < (dependencies_in E).count → get_or (dependencies_in E).second k 0 ≡ get_or (dependencies_of s).second k 0
  unfolding dependencies_in
  second_same k l =
      let few = few_ends in
      let e = count_same in
      get_d_tabulate (end_in E 1) DEPENDENCIES k 0 (omega arith) ∙ second_back (dependencies_of s) k (omega arith)

  entries_same : entries_in B ≡ entries_of s
  unfolding entries_of
  entries_same = ap entries_in rows_given

  alike : Alike (agents_at s) (places_in P) (places_of s) (rows_at s) (entries_in B) (entries_of s) (dependencies_in E) (dependencies_of s)
  alike = record { place = place_same; entry = λ i l. rw entries_same refl; count = count_same; first = first_same; second = second_same }

  agents_same : agents_in P ≡ agents_at s
  agents_same = agents_counted P (agents_at s) (numbers_long (places_of s) (agents_at s)) (agents_fit sound)

  rows_same_count : rows_in B ≡ rows_at s
  rows_same_count = rows_counted B (rows_at s) (rows_length (rows_at s) (entries_of s)) (rows_fit sound)

  pub table_again : parts_table (version_at s) P B E ≡ s
  unfolding parts_table
  table_again = rw (agents_same, rows_same_count) (encode_alike (version_at s) (agents_at s) _ _ (rows_at s) _ _ _ _ alike ∙ written_again sound small)

  pub answer_again : (room : ℕ) → parts_answer (version_at s) P B E room
      ≡ write_answer (version_at s) (agents_at s) (places_of s) (rows_at s) (entries_of s) (dependencies_of s) room
  unfolding parts_answer
  answer_again room = rw (agents_same, rows_same_count) (answer_alike (version_at s) (agents_at s) _ _ (rows_at s) _ _ _ _ alike room)

-- ---- what was written, read

module _ (version : ℕ) (q b e : List ℕ) (eight : Bytes b)
    (typed : Typed (agents_in q) (places_in q) (rows_in b) (entries_in b) (dependencies_in e))
    (fits : Fits version (agents_in q) (places_in q) (rows_in b) (dependencies_in e).count) where
  abbrev t : List ℕ
  t = encode version (agents_in q) (places_in q) (rows_in b) (entries_in b) (dependencies_in e)

  agents_whole : PLACE_NUMBERS * agents_in q ≤ length q
  unfolding agents_in
  agents_whole = let h = capped_below (length q / PLACE_NUMBERS) 255 in omega arith

  rows_whole : ROW_BYTES * rows_in b ≤ length b
  unfolding rows_in
  rows_whole = let h = capped_below (length b / ROW_BYTES) 255 in omega arith

  ends_whole : 2 * (dependencies_in e).count ≤ length e
  unfolding dependencies_in
  ends_whole = let h = capped_below (length e / 2) 65535 in omega arith

  number_back : (k : ℕ) → k < PLACE_NUMBERS * agents_in q → place_number_at (places_of t) k ≡ get_or (take (PLACE_NUMBERS * agents_in q) q) k 0
  unfolding place_number_at number_of
  number_back k l =
      let few = agents_few fits in
      let h : k / PLACE_NUMBERS * PLACE_NUMBERS + k % PLACE_NUMBERS ≡ k = omega arith in
      ap (λ (x : List ℕ). get_or x (k % PLACE_NUMBERS) 0)
      (encode_slot version _ _ _ _ _ fits typed (k / PLACE_NUMBERS) (omega arith) ∙ place_is q (k / PLACE_NUMBERS) (omega arith))
      ∙ place_number_lem q (k / PLACE_NUMBERS) (k % PLACE_NUMBERS) (omega arith)
      ∙ ap (λ (x : ℕ). get_or q x 0) h ∙ sym (get_or-take (PLACE_NUMBERS * agents_in q) q k 0 l)

  pub places_back : place_numbers (places_of t) (agents_in q) ≡ take (PLACE_NUMBERS * agents_in q) q
  unfolding place_numbers
  places_back =
      let w = agents_whole in
      let n = length-take (PLACE_NUMBERS * agents_in q) q in
      tabulated (place_number_at (places_of t)) (take (PLACE_NUMBERS * agents_in q) q) (PLACE_NUMBERS * agents_in q) (omega arith) number_back

  rows_are : row_bytes t ≡ take (ROW_BYTES * rows_in b) b
  rows_are = encode_part version _ _ _ _ _ ∙ rows_same b eight (rows_in b) (rows_few fits) rows_whole

  pub rows_back : rows_part (rows_in b) (entries_of t) ≡ take (ROW_BYTES * rows_in b) b
  unfolding entries_of
  rows_back =
      let w = rows_whole in
      let n = length-take (ROW_BYTES * rows_in b) b in
      rw rows_are
      (rows_same (take (ROW_BYTES * rows_in b) b) (front_small b eight (ROW_BYTES * rows_in b)) (rows_in b) (rows_few fits) (omega arith)
      ∙ take_all (ROW_BYTES * rows_in b) (take (ROW_BYTES * rows_in b) b) (omega arith))

  -- the dependencies
  pub count_back : (dependencies_of t).count ≡ (dependencies_in e).count
  unfolding dependencies_of
  count_back = encode_count version _ _ _ _ _ fits typed

  from_back : (k : ℕ) → k < (dependencies_in e).count → get_or (dependencies_of t).first k 0 ≡ get_or e (k * 2 + 0) 0
  unfolding dependencies_of dependencies_in end_in
  from_back k l =
      let few = after_few fits in
      get_d_tabulate (dependency_from (dependency_bytes t)) DEPENDENCIES k 0 (omega arith) ∙ encode_from version _ _ _ _ _ fits typed k l
      ∙ get_d_tabulate (end_in e 0) DEPENDENCIES k 0 (omega arith)

  to_back : (k : ℕ) → k < (dependencies_in e).count → get_or (dependencies_of t).second k 0 ≡ get_or e (k * 2 + 1) 0
  unfolding dependencies_of dependencies_in end_in
  to_back k l =
      let few = after_few fits in
      get_d_tabulate (dependency_to (dependency_bytes t)) DEPENDENCIES k 0 (omega arith) ∙ encode_to version _ _ _ _ _ fits typed k l
      ∙ get_d_tabulate (end_in e 1) DEPENDENCIES k 0 (omega arith)

  end_back : (k : ℕ) → k < 2 * (dependencies_in e).count → end_of (dependencies_of t) k ≡ get_or (take (2 * (dependencies_in e).count) e) k 0
  end_back k l = go (dec_lt 0 (k % 2)) ∙ sym (get_or-take (2 * (dependencies_in e).count) e k 0 l)
    where
      go : Dec (0 < k % 2) → end_of (dependencies_of t) k ≡ get_or e k 0
      go (yes h) =
          let i : k / 2 * 2 + 1 ≡ k = omega arith in
          end_odd (dependencies_of t) k (λ z. omega arith) ∙ to_back (k / 2) (omega arith) ∙ ap (λ (x : ℕ). get_or e x 0) i
      go (no h) =
          let i : k / 2 * 2 + 0 ≡ k = omega arith in
          end_even (dependencies_of t) k (omega arith) ∙ from_back (k / 2) (omega arith) ∙ ap (λ (x : ℕ). get_or e x 0) i

  pub ends_back : end_numbers (dependencies_of t) ≡ take (2 * (dependencies_in e).count) e
  unfolding end_numbers
  ends_back =
      let w = ends_whole in
      let n = length-take (2 * (dependencies_in e).count) e in
      ap (λ (m : ℕ). tabulate (end_of (dependencies_of t)) (2 * m)) count_back
      ∙ tabulated (end_of (dependencies_of t)) (take (2 * (dependencies_in e).count) e) (2 * (dependencies_in e).count) (omega arith) end_back
