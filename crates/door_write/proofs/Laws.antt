-- Laws that the writer's proofs cite. Assumes nothing.
use mathlib.Core.Path.{◌≡◌, refl, sym, ap, ap₂, subst, ◌∙◌}
use mathlib.Core.Bool.{Bool, true, false}
use mathlib.Core.List.{List, [], ◌∷◌, ◌++◌}
use Prim.Native.Nat.{ℕ, ◌+◌, ◌-◌, ◌*◌, ◌/◌, ◌%◌, ◌≤◌, ◌<◌}
use native.Mathlib.Omega.{arith}
use native.Mathlib.Decide.{dec_lt}
use Rattle.std.specs.Prelude.{min, cond, ltb}
use lib.ListN.{length, get_or, set, take, drop, length-take, get_or-eq_default}
use lib.Seq.{paste, length-paste, take-paste, take_all, ext_get_or, get_or-take}
use borrow.Author.Tests.{eq-eqb, ne_eqb, le-leb, lt-leb, lt-ltb, le-ltb, leb-true}
use Rattle.finite.specs.Logic.{split}
use Rattle.finite.specs.Lists.{tabulate, length_tabulate, get_d_tabulate, Written, written_more, written_all}
use Rattle.model.specs.declared.Admission.{Admission}
use Rattle.model.specs.declared.Admission.TheVariants.{Admitted, Refused}
use Rattle.model.specs.declared.Refusal.{Refusal}
use Rattle.model.specs.Limits.{AGENTS, ROWS, DEPENDENCIES}
use Rattle.std.specs.declared.result.Result.{Result}
use Rattle.std.specs.declared.result.Result.TheVariants.{Ok, Err}
use Rattle.model.specs.Refusal.{refusal, admission, when_admitted}
use Rattle.door_write.specs.declared.Sizes.{Sizes}
use Rattle.model.specs.Table.{dependency_count}
use Rattle.model.specs.Header.{HEADER, DEPENDENCY_BYTES, ROW_BYTES, version_at, agents_at, rows_at, places_of, dependency_bytes}
use Rattle.model_laws.specs.AdmissionLaws.{Sound, sound_admitted, admitted_sound, agents_fit, rows_fit, dependencies_fit_lem}
use Rattle.model.specs.declared.Entry.{Entry}
use Rattle.door_write.specs.declared.Dependencies.{Dependencies}
use Rattle.door_write.specs.Answer.{WriteAnswer}
use Rattle.door_write.specs.Answer as Answer
use Rattle.door_write.specs.Encode.{half, with_hosts, places_size, dependencies_size, table_size, header_list, number_of, place_byte, row_list}
use Rattle.door_write.specs.Encode.{nothing, entry_at, entry_byte, dependency_number, dependency_byte, places_part, rows_part, dependencies_part, encode}
use Rattle.door_write.specs.Encode.{entries_in, entries_of, dependencies_of}
use Rattle.door_write.specs.Answer.{values_fault, room_answer, write_answer, write_result, buffer_after}
use Rattle.door_write.specs.Parts.{PLACE_NUMBERS, capped, agents_in, places_in, rows_in, dependencies_in, parts_answer, parts_table}
use Rattle.door_write.specs.Read.{ReadAnswer}
use Rattle.door_write.specs.Read as Given
use Rattle.door_write.specs.Read.{place_number_at, place_numbers, end_of, end_numbers, fronted, lent_fit, read_answer, read_result, places_after, rows_after, dependencies_after}
use Rattle.door_write.specs.ValueLaws.{Fits, places_most, after_most, size_most, header_length, encode_length, values_fit, agents_few, rows_few, after_few}

-- ---- a byte of a number of two bytes

pub half_high : (v k : ℕ) → k % 2 ≡ 0 → half v k ≡ v / 256 % 256
unfolding half
half_high v k h = rw (eq-eqb (k % 2) 0 h) refl

pub half_low : (v k : ℕ) → (k % 2 ≡ 0 → ⊥) → half v k ≡ v % 256
unfolding half
half_low v k h = rw (ne_eqb (k % 2) 0 h) refl

-- ---- the numbers that bytes belong to

pub number_past : (p : List (List ℕ)) (a m : ℕ) → length p ≤ a → number_of p a m ≡ 0
unfolding number_of
number_past p a m h = rw (get_or-eq_default p [] h) refl

pub number_count : (d : Dependencies) (k : ℕ) → k < 2 → dependency_number d k ≡ d.count
unfolding dependency_number
number_count d k h = rw (lt-ltb k 2 h) refl

pub number_first : (d : Dependencies) (k : ℕ) → 2 ≤ k → (k - 2) % DEPENDENCY_BYTES < 2 → dependency_number d k ≡ get_or d.first ((k - 2) / DEPENDENCY_BYTES) 0
unfolding dependency_number
number_first d k h m = rw (le-ltb k 2 h, lt-ltb ((k - 2) % DEPENDENCY_BYTES) 2 m) refl

pub number_second : (d : Dependencies) (k : ℕ) → 2 ≤ k → 2 ≤ (k - 2) % DEPENDENCY_BYTES → dependency_number d k ≡ get_or d.second ((k - 2) / DEPENDENCY_BYTES) 0
unfolding dependency_number
number_second d k h m = rw (le-ltb k 2 h, le-ltb ((k - 2) % DEPENDENCY_BYTES) 2 m) refl

-- ---- the bytes that are made one by one

pub byte_dependency : (d : Dependencies) (k n : ℕ) {v : ℕ} → n ≡ dependency_number d k → v ≡ half n k → v ≡ dependency_byte d k
unfolding dependency_byte
byte_dependency d k n e h = rw (← e) h

pub byte_entry : (l : List Entry) (k : ℕ) (b : List ℕ) → b ≡ row_list (get_or l (k / ROW_BYTES) nothing).row (get_or l (k / ROW_BYTES) nothing).source.0
    → get_or b (k % ROW_BYTES) 0 ≡ entry_byte l k
unfolding entry_byte entry_at
byte_entry l k b e = ap (λ (x : List ℕ). get_or x (k % ROW_BYTES) 0) e

-- ---- four copies, one after the other, make the table

take_none : (l : List ℕ) → take 0 l ≡ []
take_none [] = refl
take_none (x ∷ l) = refl

-- the front of a longer list that a loop made
front : (f : ℕ → ℕ) (m n : ℕ) → n ≤ m → take n (tabulate f m) ≡ tabulate f n
front f m n h =
    ext_get_or 0 (take n (tabulate f m)) (tabulate f n) (long ∙ sym (length_tabulate f n))
    (λ i q. let s : i < n = subst (λ (x : ℕ). i < x) long q in
    get_or-take n (tabulate f m) i 0 s ∙ get_d_tabulate f m i 0 (omega arith) ∙ sym (get_d_tabulate f n i 0 s))
  where
    long : length (take n (tabulate f m)) ≡ n
    long = length-take n (tabulate f m) ∙ rw (length_tabulate f m) (omega arith)

-- lists of their lengths, copied into t₀ one after the other
copied : (t₀ h P R D : List ℕ) (a b c : ℕ) → length t₀ ≡ 2570 → length h ≡ HEADER → HEADER + a + b + c ≤ 2570 → a ≤ length P → b ≤ length R → c ≤ length D
    → take (HEADER + a + b + c) (paste (paste (paste (paste t₀ 0 h HEADER) HEADER P a) (HEADER + a) R b) (HEADER + a + b) D c) ≡ h ++ take a
    P ++ take b R ++ take c D
copied t₀ h P R D a b c long header_long room first_long second_long third_long =
    take-paste t₃ (HEADER + a + b) D c (let q = n₃ in omega arith) third_long
    ∙ ap (λ (x : List ℕ). x ++ take c D) (take-paste t₂ (HEADER + a) R b (let q = n₂ in
    omega arith) second_long ∙ ap (λ (x : List ℕ). x ++ take b R)
    (take-paste t₁ HEADER P a (let q = n₁ in omega arith) first_long ∙ ap (λ (x : List ℕ). x ++ take a P) first))
  where
    t₁ : List ℕ
    t₁ = paste t₀ 0 h HEADER

    t₂ : List ℕ
    t₂ = paste t₁ HEADER P a

    t₃ : List ℕ
    t₃ = paste t₂ (HEADER + a) R b

    n₁ : length t₁ ≡ 2570
    n₁ = length-paste t₀ 0 h HEADER (omega arith) (omega arith) ∙ long

    n₂ : length t₂ ≡ 2570
    n₂ = length-paste t₁ HEADER P a (let q = n₁ in omega arith) first_long ∙ n₁

    n₃ : length t₃ ≡ 2570
    n₃ = length-paste t₂ (HEADER + a) R b (let q = n₂ in omega arith) second_long ∙ n₂

    first : take HEADER t₁ ≡ h
    first = take-paste t₀ 0 h HEADER (omega arith) (omega arith) ∙ ap (λ (x : List ℕ). x ++ take HEADER h) (take_none t₀) ∙ take_all HEADER h (omega arith)

module _ (version agents : ℕ) (p : List (List ℕ)) (rows : ℕ) (l : List Entry) (d : Dependencies) (few_agents : agents ≤ AGENTS) (few_rows : rows ≤ ROWS)
    (few_dependencies : d.count ≤ DEPENDENCIES)
    (size places after : ℕ) (size_is : size ≡ table_size version agents rows d.count) (places_size : places ≡ places_size version agents)
    (after_size : after ≡ dependencies_size version d.count) where
  pub table_made : (t₀ h P R D t₁ t₂ t₃ t₄ : List ℕ) (hosts : Bool) → h ≡ header_list version agents rows size → t₁ ≡ paste t₀ 0 h HEADER
      → hosts ≡ with_hosts version → P ≡ tabulate (place_byte hosts p) 256 → t₂ ≡ paste t₁ HEADER P places
      → R ≡ tabulate (entry_byte l) 2048 → t₃ ≡ paste t₂ (HEADER + places) R (ROW_BYTES * rows)
      → D ≡ tabulate (dependency_byte d) 258 → t₄ ≡ paste t₃ (HEADER + places + ROW_BYTES * rows) D after → length t₀ ≡ 2570
      → take (table_size version agents rows d.count) t₄ ≡ encode version agents p rows l d
  unfolding table_size encode places_part rows_part dependencies_part
  table_made t₀ h P R D t₁ t₂ t₃ t₄ hosts header_is header_put hosts_are places_are places_put rows_are rows_put dependencies_are dependencies_put long =
      let few : places ≤ 256 = rw places_size (places_most version agents few_agents) in
      let less : after ≤ 258 = rw after_size (after_most version d.count few_dependencies) in
      let hl : length h ≡ HEADER = ap length header_is ∙ header_length version agents rows size in
      let Pl : length P ≡ 256 = ap length places_are ∙ length_tabulate (place_byte hosts p) 256 in
      let Rl : length R ≡ 2048 = ap length rows_are ∙ length_tabulate (entry_byte l) 2048 in
      let Dl : length D ≡ 258 = ap length dependencies_are ∙ length_tabulate (dependency_byte d) 258 in
      let made = copied t₀ h P R D places (ROW_BYTES * rows) after long hl (omega arith) (omega arith) (omega arith) (omega arith) in
      rw (← after_size, ← places_size, dependencies_put, rows_put, places_put, header_put) (made ∙ rw (
        places_are,
        rows_are,
        dependencies_are,
        hosts_are,
        front (place_byte (with_hosts version) p) 256 places few,
        front (entry_byte l) 2048 (ROW_BYTES * rows) (omega arith),
        front (dependency_byte d) 258 after less,
        header_is,
        size_is,
        places_size,
        after_size,
      ) refl)

-- ---- the answer and the buffer

pub refused_both : (w : WriteAnswer) (k i : ℕ) (t o : List ℕ) → w ≡ Answer.Refused k i
    → (Err (refusal k i) ≡ write_result w) × (o ≡ buffer_after w t o)
unfolding buffer_after write_result
refused_both w k i t o e = (rw e refl, rw e refl)

pub written_both : (w : WriteAnswer) (n : ℕ) (t o u f : List ℕ) → w ≡ Answer.Written n → u ≡ paste o 0 f n → take n f ≡ t
    → (Ok n ≡ write_result w) × (u ≡ buffer_after w t o)
unfolding buffer_after write_result
written_both w n t o u f e g h =
    let z : 0 + n ≡ n = omega arith in
    let k : u ≡ t ++ drop n o = g ∙ ap (λ (x : List ℕ). x ++ take n f ++ drop (0 + n) o) (take_none o) ∙ rw (z, h) refl in
    (rw e refl, rw e k)

module _ (version agents : ℕ) (p : List (List ℕ)) (rows : ℕ) (l : List Entry) (d : Dependencies) (room k : ℕ)
    (e : k ≡ values_fault version agents p rows d.count) where
  pub values_refused : (k ≡ 0 → ⊥) → write_answer version agents p rows l d room ≡ Answer.Refused k 0
  unfolding write_answer
  values_refused n = rw (← e, ne_eqb k 0 n) refl

  -- values that pass, and what was made of them
  module _ (z : k ≡ 0) (t : List ℕ) (size : ℕ) (n : size ≡ table_size version agents rows d.count)
      (made : take (table_size version agents rows d.count) t ≡ encode version agents p rows l d) where
    fits : Fits version agents p rows d.count
    fits = values_fit version agents p rows d.count (sym e ∙ z)

    pub few_bytes : size ≤ 2570
    few_bytes = rw n (size_most version agents rows d.count (agents_few fits) (rows_few fits) (after_few fits))

    pub front_is : take size t ≡ encode version agents p rows l d
    front_is = rw n made

    pub front_size : size ≡ length (take size t)
    front_size = n ∙ sym (ap length front_is ∙ encode_length version agents p rows l d)

    module _ (a : Admission) (q : a ≡ admission true (take size t)) where
      pub answer_is : write_answer version agents p rows l d room ≡ when_admitted Answer.Refused a (room_answer size room)
      unfolding write_answer
      answer_is = rw (← e, eq-eqb k 0 z, ← n, q, front_is) refl

module _ (w : WriteAnswer) (a : Admission) (size room : ℕ) (e : w ≡ when_admitted Answer.Refused a (room_answer size room)) where
  -- a table that is refused
  pub refused_out : (x : Refusal) (t o : List ℕ) → a ≡ Refused x.number x.row → (Err x ≡ write_result w) × (o ≡ buffer_after w t o)
  unfolding when_admitted
  refused_out x t o q =
      refused_both w x.number x.row t o (e ∙ ap (λ (y : Admission). when_admitted Answer.Refused y (room_answer size room)) q)

  -- one that is admitted
  module _ (x n : ℕ) (q : a ≡ Admitted x n) where
    open_is : w ≡ room_answer size room
    unfolding when_admitted
    open_is = e ∙ ap (λ (y : Admission). when_admitted Answer.Refused y (room_answer size room)) q

    pub short_is : room < size → w ≡ Answer.Refused 13 0
    unfolding room_answer
    short_is h = open_is ∙ rw (lt-leb size room h) refl

    pub long_is : size ≤ room → w ≡ Answer.Written size
    unfolding room_answer
    long_is h = open_is ∙ rw (le-leb size room h) refl

-- ---- values out of lent parts

pub min_capped : (n most : ℕ) → min n most ≡ capped n most
unfolding capped
min_capped n most = go (dec_lt n most)
  where
    go : Dec (n < most) → min n most ≡ cond (ltb n most) n most
    go (yes l) = rw (lt-ltb n most l) (omega arith)
    go (no l) = rw (le-ltb n most (omega arith)) (omega arith)

module _ (version : ℕ) (P B Q : List ℕ) {a : ℕ} {p : List (List ℕ)} {n : ℕ} {l : List Entry} {d : Dependencies} (agents_are : a ≡ agents_in P)
    (places_are : p ≡ places_in P) (rows_are : n ≡ rows_in B) (entries_are : l ≡ entries_in B)
    (dependencies_are : d ≡ dependencies_in Q) where
  answer_same : (room : ℕ) → write_answer version a p n l d room ≡ parts_answer version P B Q room
  unfolding parts_answer
  answer_same room = rw (← agents_are, ← places_are, ← rows_are, ← entries_are, ← dependencies_are) refl

  table_same : encode version a p n l d ≡ parts_table version P B Q
  unfolding parts_table
  table_same = rw (← agents_are, ← places_are, ← rows_are, ← entries_are, ← dependencies_are) refl

  pub parts_out : (out u : List ℕ) (r : Result ℕ Refusal) (room : ℕ)
      → (r ≡ write_result (write_answer version a p n l d room)) × (u ≡ buffer_after (write_answer version a p n l d room) (encode version a p n l d) out)
      → (r ≡ write_result (parts_answer version P B Q room)) × (u ≡ buffer_after (parts_answer version P B Q room) (parts_table version P B Q) out)
  parts_out out u r room h = (h.0 ∙ ap write_result (answer_same room), h.1 ∙ ap₂ (λ (x : WriteAnswer) (y : List ℕ). buffer_after x y out) (answer_same room) table_same)

-- ---- values into lent parts

module _ (f : ℕ → ℕ) (n : ℕ) {c d : List ℕ} where
  pub number_put : (i v : ℕ) → i < n → n ≤ length c → v ≡ f i → Written (tabulate f n) i c d → Written (tabulate f n) (i + 1) c (set d i v)
  number_put i v l room e h = written_more i v (omega arith) (get_d_tabulate f n i 0 l ∙ sym e) h

  pub numbers_put : n ≤ length c → Written (tabulate f n) n c d → d ≡ fronted (tabulate f n) c
  unfolding fronted
  numbers_put room h = written_all (tabulate f n) c d n (sym (length_tabulate f n)) room h

pub place_number_is : (p : List (List ℕ)) (k : ℕ) {v : ℕ} → v ≡ number_of p (k / PLACE_NUMBERS) (k % PLACE_NUMBERS) → v ≡ place_number_at p k
unfolding place_number_at
place_number_is p k e = e

pub end_first : (d : Dependencies) (k : ℕ) → k % 2 ≡ 0 → end_of d k ≡ get_or d.first (k / 2) 0
unfolding end_of
end_first d k h = rw (eq-eqb (k % 2) 0 h) refl

pub end_second : (d : Dependencies) (k : ℕ) → (k % 2 ≡ 0 → ⊥) → end_of d k ≡ get_or d.second (k / 2) 0
unfolding end_of
end_second d k h = rw (ne_eqb (k % 2) 0 h) refl

pub entries_put : (l : List Entry) (n : ℕ) (out u b : List ℕ) → n ≤ ROWS → b ≡ tabulate (entry_byte l) 2048 → u ≡ paste out 0 b (ROW_BYTES * n)
    → u ≡ fronted (rows_part n l) out
unfolding fronted rows_part
entries_put l n out u b few bytes e =
    let z : 0 + ROW_BYTES * n ≡ ROW_BYTES * n = omega arith in
    e ∙ ap (λ (x : List ℕ). x ++ take (ROW_BYTES * n) b ++ drop (0 + ROW_BYTES * n) out) (take_none out)
    ∙ rw (z, bytes, front (entry_byte l) 2048 (ROW_BYTES * n) (omega arith), length_tabulate (entry_byte l) (ROW_BYTES * n)) refl

-- ---- what a reader gives

module _ (s : List ℕ) (P B D : ℕ) where
  pub parts_short : lent_fit P B D ≡ false → read_answer s P B D ≡ Given.Refused 11 0
  unfolding read_answer
  parts_short h = rw h refl

  -- a table that is refused
  pub table_refused : (k i : ℕ) → lent_fit P B D ≡ true → admission true s ≡ Refused k i → read_answer s P B D ≡ Given.Refused k i
  unfolding read_answer when_admitted
  table_refused k i fit q = rw (fit, q) refl

  -- one that is admitted
  module _ (fit : lent_fit P B D ≡ true) (a : Admission) (x n : ℕ) (e : a ≡ admission true s) (q : a ≡ Admitted x n) where
    sound : Sound true s
    sound = admitted_sound true s (sym e ∙ q)

    same : Admitted x n ≡ Admitted (agents_at s) (rows_at s)
    same = sym q ∙ e ∙ sound_admitted true s sound

    agents_are : x ≡ agents_at s
    agents_are = ap first_count same
      where
        first_count : Admission → ℕ
        first_count (Admitted y m) = y
        first_count (Refused k i) = 0

    rows_are : n ≡ rows_at s
    rows_are = ap second_count same
      where
        second_count : Admission → ℕ
        second_count (Admitted y m) = m
        second_count (Refused k i) = 0

    pub places_room : PLACE_NUMBERS * x ≤ P
    unfolding lent_fit
    places_room =
        let l = agents_fit sound in
        let r = agents_are in
        let h = leb-true (PLACE_NUMBERS * AGENTS) P (split (split fit).0).0 in
        omega arith

    pub rows_room : (n ≤ ROWS) × (ROW_BYTES * n ≤ B)
    unfolding lent_fit
    rows_room =
        let l = rows_fit sound in
        let r = rows_are in
        let h = leb-true (ROW_BYTES * ROWS) B (split (split fit).0).1 in
        (omega arith, omega arith)

    module _ (d : Dependencies) (h : d ≡ dependencies_of s) where
      count_is : d.count ≡ dependency_count (dependency_bytes s)
      unfolding dependencies_of
      count_is = ap (λ (y : Dependencies). y.count) h

      pub ends_room : (d.count ≤ DEPENDENCIES) × (2 * d.count ≤ D)
      unfolding lent_fit
      ends_room =
          let l = dependencies_fit_lem sound in
          let r = count_is in
          let g = leb-true (2 * DEPENDENCIES) D (split fit).1 in
          (omega arith, omega arith)

      pub read_is : (v : ℕ) → v ≡ get_or s 4 0 → read_answer s P B D ≡ Given.Read v x n d.count
      unfolding read_answer when_admitted version_at
      read_is v g = rw (fit, ← e, q, g, agents_are, rows_are, count_is) refl

pub given_refused : (w : ReadAnswer) (k i : ℕ) (s p b d : List ℕ) → w ≡ Given.Refused k i
    → (Err (refusal k i) ≡ read_result w) × (p ≡ places_after w s p) × (b ≡ rows_after w s b) × (d ≡ dependencies_after w s d)
unfolding places_after rows_after dependencies_after read_result
given_refused w k i s p b d e = (rw e refl, rw e refl, rw e refl, rw e refl)

abbrev pub sizes : ℕ → ℕ → ℕ → ℕ → Sizes
sizes v x n m = record { version = v; agents = x; rows = n; dependencies = m }

pub given_read : (w : ReadAnswer) (v x n m : ℕ) (s p p' b b' c c' : List ℕ) (q : List (List ℕ)) (l : List Entry) (d : Dependencies)
    → w ≡ Given.Read v x n m → q ≡ places_of s → l ≡ entries_of s → d ≡ dependencies_of s
    → p' ≡ fronted (place_numbers q x) p → b' ≡ fronted (rows_part n l) b → c' ≡ fronted (end_numbers d) c
    → (Ok (sizes v x n m) ≡ read_result w) × (p' ≡ places_after w s p) × (b' ≡ rows_after w s b) × (c' ≡ dependencies_after w s c)
unfolding places_after rows_after dependencies_after read_result
given_read w v x n m s p p' b b' c c' q l d e f g h i j k = (rw e refl, rw (e, ← f) i, rw (e, ← g) j, rw (e, ← h) k)
