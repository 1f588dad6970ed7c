-- Reading back what was written gives what was given. Assumes nothing.
use Rattle.std.specs.Prelude.{◌≡◌, false, ℕ, ◌+◌, ◌-◌, ◌*◌, ◌/◌, ◌%◌, ◌≤◌, ◌<◌, take, drop}
use Rattle.std.proofs.Math.Path.{refl, ap}
use Rattle.std.proofs.Common.{sym, ap₂, ◌∙◌, subst, length-append, take_at, drop_at, get_or-append-add, get_or-drop}
use Rattle.std.proofs.Math.Bool.{true, cond}
use Rattle.std.proofs.Math.Logic.{⊎_elim}
use mathlib.Core.List.{List, [], ◌∷◌, ◌++◌}
use native.Mathlib.Omega.{arith}
use Rattle.std.proofs.Math.ListN.{length, get_or, get_or-append}
use Rattle.std.proofs.lemmas.List.{drop-append-le}
use borrow.Author.Tests.{eq-eqb, le-leb, lt-ltb, le-ltb}
use Rattle.finite.specs.Logic.{◌and◌, which, not_in}
use Rattle.finite.specs.Below.{any_not}
use Rattle.finite.specs.Lists.{tabulate, get_d_tabulate}
use Rattle.model.specs.Limits.{AGENTS, ROWS, DEPENDENCIES}
use Rattle.model.specs.Scope.{QUEUE, agent_kind}
use Rattle.model.specs.Header.{HEADER, VERSION_PLAIN, VERSION_HOSTS, PLACE_BYTES, HOSTS_PLACE_BYTES, DEPENDENCY_BYTES, ROW_BYTES, pair_at, quad_at, count_at, version_at}
use Rattle.model.specs.Header.{zero_at, agents_at, rows_at, has_hosts, shader_place_at, any_place_at, place_at, slot_at, places_of, rows_begin, rows_end, size_of, row_bytes}
use Rattle.model.specs.Table.{byte_of, pair_of, row_of, source_of, sources_of, dependency_count, dependency_end, dependency_from}
use Rattle.model.specs.Header.{dependency_bytes}
use Rattle.model.specs.Table.{dependency_to}
use Rattle.model.specs.Refusal.{shape_or}
use Rattle.model.specs.Refusal.{version_fits, limits_fit, length_fits, kind_over, agents_known, dependencies_few, dependencies_named, hosts_fault, header_fault}
use Rattle.model.specs.declared.Entry.{Entry}
use Rattle.door_write.specs.declared.Dependencies.{Dependencies}
use Rattle.door_write.specs.Encode.{half, with_hosts, places_size, dependencies_size, table_size, header_list, number_of, place_number, place_byte, row_list}
use Rattle.door_write.specs.Encode.{entry_at, entry_byte, dependency_number, dependency_byte, places_part, rows_part, dependencies_part, encode}
use Rattle.door_write.specs.ValueLaws.{Fits, begin_either, end_either, places_hosts, places_plain, after_hosts, after_plain, size_most, size_least}
use Rattle.door_write.specs.ValueLaws.{header_length, places_length, rows_length, encode_length, version_first, version_last, agents_few, rows_few}
use Rattle.door_write.specs.ValueLaws.{number_hosts, number_plain, after_none, after_few}

-- ---- definitions: numbers are those of their types

-- a row's bytes and pairs of bytes, and its source
pub record EntryTyped (e : Entry) : Type 0 where
  pub kind : e.row.kind < 256
  pub agent : e.row.agent < 256
  pub order : e.row.order < 256
  pub scope : e.row.scope < 256
  pub classes : e.row.classes < 256
  pub flags : e.row.flags < 256
  pub class : e.row.class < 256
  pub size : e.row.size < 256
  pub start : e.row.start < 65536
  pub reference : e.row.reference < 65536
  pub rank : e.row.rank < 65536
  pub source : e.source.0 < 65536

-- all values: four numbers in each slot for a place, and as far as they are counted, numbers that fit
pub record Typed (agents : ℕ) (p : List (List ℕ)) (rows : ℕ) (l : List Entry) (d : Dependencies) : Type 0 where
  pub four : (a : ℕ) → a < AGENTS → length (get_or p a []) ≡ 4
  pub number : (a m : ℕ) → a < agents → number_of p a m < 65536
  pub entry : (i : ℕ) → i < rows → EntryTyped (entry_at l i)
  pub count : d.count < 65536
  pub first : (k : ℕ) → k < d.count → get_or d.first k 0 < 65536
  pub second : (k : ℕ) → k < d.count → get_or d.second k 0 < 65536

-- ---- four lists, one after the other

module _ (h P R D : List ℕ) (a b c : ℕ) (ha : length h ≡ a) (hb : length P ≡ b) (hc : length R ≡ c) where
  two : length (h ++ P) ≡ a + b
  two = rw (length-append h P, ha, hb) refl

  three : length (h ++ P ++ R) ≡ a + b + c
  three = rw (length-append (h ++ P) R, two, hc) refl

  at_first : (k : ℕ) → k < a → get_or (h ++ P ++ R ++ D) k 0 ≡ get_or h k 0
  at_first k l =
      get_or-append (h ++ P ++ R) D 0 k (let q = three in omega arith) ∙ get_or-append (h ++ P) R 0 k (let q = two in omega arith)
      ∙ get_or-append h P 0 k (omega arith)

  at_second : (k : ℕ) → k < b → get_or (h ++ P ++ R ++ D) (a + k) 0 ≡ get_or P k 0
  at_second k l =
      get_or-append (h ++ P ++ R) D 0 (a + k) (let q = three in omega arith) ∙ get_or-append (h ++ P) R 0 (a + k) (let q = two in omega arith)
      ∙ subst (λ (x : ℕ). get_or (h ++ P) (x + k) 0 ≡ get_or P k 0) ha (get_or-append-add h P k 0)

  at_third : take c (drop (a + b) (h ++ P ++ R ++ D)) ≡ R
  at_third = ap (take c) (drop-append-le (a + b) (h ++ P ++ R) D (let q = three in
      omega arith) ∙ ap (λ (x : List ℕ). x ++ D) (drop_at (h ++ P) R (a + b) two)) ∙ take_at R D c hc

  at_fourth : drop (a + b + c) (h ++ P ++ R ++ D) ≡ D
  at_fourth = drop_at (h ++ P ++ R) D (a + b + c) three

-- ---- a pair of bytes

pair_is : (v : ℕ) → v < 65536 → v / 256 % 256 * 256 + v % 256 ≡ v
pair_is v h = omega arith

pub half_pair : (b : List ℕ) (k v : ℕ) → v < 65536 → k % 2 ≡ 0 → get_or b k 0 ≡ half v k → get_or b (k + 1) 0 ≡ half v (k + 1) → pair_at b k ≡ v
unfolding pair_at half
half_pair b k v f e x y =
    let o : (k + 1) % 2 ≡ 1 = omega arith in
    rw (x, y, eq-eqb (k % 2) 0 e, o) (pair_is v f)

-- ---- one entry

-- byte k of entry i, in the rows' bytes
entry_at_lem : (l : List Entry) (i k : ℕ) → k < ROW_BYTES → entry_byte l (i * ROW_BYTES + k) ≡ get_or (row_list (entry_at l i).row (entry_at l i).source.0) k 0
unfolding entry_byte
entry_at_lem l i k h =
    let d : (i * ROW_BYTES + k) / ROW_BYTES ≡ i = omega arith in
    let m : (i * ROW_BYTES + k) % ROW_BYTES ≡ k = omega arith in
    rw (d, m) refl

module _ (rows : ℕ) (l : List Entry) (i : ℕ) (below : i < rows) (fit : EntryTyped (entry_at l i)) where
  abbrev e : Entry
  e = entry_at l i

  byte_back : (k : ℕ) → k < ROW_BYTES → byte_of (rows_part rows l) i k ≡ get_or (row_list e.row e.source.0) k 0
  unfolding byte_of rows_part
  byte_back k h = get_d_tabulate (entry_byte l) (ROW_BYTES * rows) (i * ROW_BYTES + k) 0 (omega arith) ∙ entry_at_lem l i k h

  pair_back : (k : ℕ) → k + 1 < ROW_BYTES
      → pair_of (rows_part rows l) i k ≡ get_or (row_list e.row e.source.0) k 0 * 256 + get_or (row_list e.row e.source.0) (k + 1) 0
  unfolding pair_of pair_at rows_part
  pair_back k h =
      let q : i * ROW_BYTES + k + 1 ≡ i * ROW_BYTES + (k + 1) = omega arith in
      rw (
        q,
        get_d_tabulate (entry_byte l) (ROW_BYTES * rows) (i * ROW_BYTES + k) 0 (omega arith),
        get_d_tabulate (entry_byte l) (ROW_BYTES * rows) (i * ROW_BYTES + (k + 1)) 0 (omega arith),
        entry_at_lem l i k (omega arith),
        entry_at_lem l i (k + 1) h,
      )
      refl

  row_back : row_of (rows_part rows l) i ≡ e.row
  unfolding row_of row_list
  row_back =
      rw (
        byte_back 0 (omega arith),
        byte_back 1 (omega arith),
        byte_back 2 (omega arith),
        byte_back 3 (omega arith),
        byte_back 4 (omega arith),
        byte_back 5 (omega arith),
        byte_back 6 (omega arith),
        byte_back 7 (omega arith),
        pair_back 8 (omega arith),
        pair_back 10 (omega arith),
        pair_back 14 (omega arith),
        pair_is e.row.start fit.start,
        pair_is e.row.reference fit.reference,
        pair_is e.row.rank fit.rank,
      ) refl

  source_back : source_of (rows_part rows l) i ≡ e.source.0
  unfolding source_of row_list
  source_back = pair_back 12 (omega arith) ∙ pair_is e.source.0 fit.source

-- ---- a place

module _ (p : List (List ℕ)) (x m j : ℕ) (two : j < 2) where
  number_four : m < 4 → place_number true p (x * HOSTS_PLACE_BYTES + 2 * m + j) ≡ number_of p x m
  unfolding place_number
  number_four h =
      let d : (x * HOSTS_PLACE_BYTES + 2 * m + j) / HOSTS_PLACE_BYTES ≡ x = omega arith in
      let n : (x * HOSTS_PLACE_BYTES + 2 * m + j) % HOSTS_PLACE_BYTES / 2 ≡ m = omega arith in
      rw (d, n) refl

  number_three : m < 3 → place_number false p (x * PLACE_BYTES + 2 * m + j) ≡ number_of p x m
  unfolding place_number
  number_three h =
      let d : (x * PLACE_BYTES + 2 * m + j) / PLACE_BYTES ≡ x = omega arith in
      let n : (x * PLACE_BYTES + 2 * m + j) % PLACE_BYTES / 2 ≡ m = omega arith in
      rw (d, n) refl

pub four_of : (q : List ℕ) → length q ≡ 4 → get_or q 0 0 ∷ get_or q 1 0 ∷ get_or q 2 0 ∷ get_or q 3 0 ∷ [] ≡ q
four_of (a ∷ b ∷ c ∷ d ∷ []) e = refl
four_of [] e = absurd (omega arith)
four_of (a ∷ []) e = absurd (omega arith)
four_of (a ∷ b ∷ []) e = absurd (omega arith)
four_of (a ∷ b ∷ c ∷ []) e = absurd (omega arith)
four_of (a ∷ b ∷ c ∷ d ∷ x ∷ q) e = absurd (omega arith)

half_at : (v j k : ℕ) → j % 2 ≡ k % 2 → half v j ≡ half v k
unfolding half
half_at v j k e = rw e refl

plus_none : (n : ℕ) → n + 0 ≡ n
plus_none n = omega arith

-- ---- a dependency

module _ (d : Dependencies) (k j : ℕ) where
  number_first : 2 + k * DEPENDENCY_BYTES ≤ j → j < 4 + k * DEPENDENCY_BYTES → dependency_number d j ≡ get_or d.first k 0
  unfolding dependency_number
  number_first a b =
      let i : (j - 2) / DEPENDENCY_BYTES ≡ k = omega arith in
      let m : (j - 2) % DEPENDENCY_BYTES < 2 = omega arith in
      rw (le-ltb j 2 (omega arith), lt-ltb ((j - 2) % DEPENDENCY_BYTES) 2 m, i) refl

  number_second : 4 + k * DEPENDENCY_BYTES ≤ j → j < 6 + k * DEPENDENCY_BYTES → dependency_number d j ≡ get_or d.second k 0
  unfolding dependency_number
  number_second a b =
      let i : (j - 2) / DEPENDENCY_BYTES ≡ k = omega arith in
      let m : 2 ≤ (j - 2) % DEPENDENCY_BYTES = omega arith in
      rw (le-ltb j 2 (omega arith), le-ltb ((j - 2) % DEPENDENCY_BYTES) 2 m, i) refl

part_none : (version : ℕ) (d : Dependencies) → with_hosts version ≡ false → dependencies_part version d ≡ []
unfolding dependencies_part tabulate
part_none version d e = rw (after_plain version d.count e) refl

pair_none : pair_at [] 0 ≡ 0
unfolding pair_at
pair_none = refl

-- ---- where a table's count of dependencies stands

pub count_at_lem : (s : List ℕ) → pair_at s (rows_end s) ≡ dependency_count (dependency_bytes s)
unfolding dependency_count dependency_bytes pair_at
count_at_lem s =
    let e : rows_end s + 0 ≡ rows_end s = omega arith in
    sym (ap₂ (λ (x y : ℕ). x * 256 + y) (get_or-drop (rows_end s) s 0 0 ∙ ap (λ (k : ℕ). get_or s k 0) e) (get_or-drop (rows_end s) s 1 0))

-- ---- the whole table

module _ (version agents : ℕ) (p : List (List ℕ)) (rows : ℕ) (l : List Entry) (d : Dependencies) where
  abbrev size : ℕ
  size = table_size version agents rows d.count

  abbrev h : List ℕ
  h = header_list version agents rows (table_size version agents rows d.count)

  header_byte : (k : ℕ) → k < HEADER → get_or (encode version agents p rows l d) k 0 ≡ get_or h k 0
  unfolding encode
  header_byte k m =
      at_first h (places_part version agents p) (rows_part rows l) (dependencies_part version d) HEADER (places_size version agents)
      (ROW_BYTES * rows) (header_length version agents rows size)
      (places_length version agents p) (rows_length rows l) k m

  place_byte_lem : (k : ℕ) → k < places_size version agents → get_or (encode version agents p rows l d) (HEADER + k) 0 ≡ place_byte (with_hosts version) p k
  unfolding encode places_part
  place_byte_lem k m =
      at_second h (places_part version agents p) (rows_part rows l) (dependencies_part version d) HEADER (places_size version agents)
      (ROW_BYTES * rows) (header_length version agents rows size)
      (places_length version agents p) (rows_length rows l) k m
      ∙ get_d_tabulate (place_byte (with_hosts version) p) (places_size version agents) k 0 m

  pub encode_version : version_at (encode version agents p rows l d) ≡ version
  unfolding version_at header_list
  encode_version = header_byte 4 (omega arith)

  pub encode_agents : agents_at (encode version agents p rows l d) ≡ agents
  unfolding agents_at header_list
  encode_agents = header_byte 5 (omega arith)

  pub encode_rows : rows_at (encode version agents p rows l d) ≡ rows
  unfolding rows_at header_list
  encode_rows = header_byte 6 (omega arith)

  encode_zero : zero_at (encode version agents p rows l d) ≡ 0
  unfolding zero_at header_list
  encode_zero = header_byte 7 (omega arith)

  pub encode_hosts : has_hosts (encode version agents p rows l d) ≡ with_hosts version
  unfolding has_hosts with_hosts
  encode_hosts = rw encode_version refl

  encode_begin : rows_begin (encode version agents p rows l d) ≡ HEADER + places_size version agents
  unfolding rows_begin places_size
  encode_begin = rw (encode_hosts, encode_agents) (begin_either (with_hosts version) agents)

  encode_end : rows_end (encode version agents p rows l d) ≡ HEADER + places_size version agents + ROW_BYTES * rows
  unfolding rows_end
  encode_end = rw (encode_begin, encode_rows) refl

  pub encode_part : row_bytes (encode version agents p rows l d) ≡ rows_part rows l
  unfolding row_bytes encode
  encode_part =
      rw (encode_begin, encode_rows)
      (at_third h (places_part version agents p) (rows_part rows l) (dependencies_part version d) HEADER (places_size version agents)
      (ROW_BYTES * rows) (header_length version agents rows size)
      (places_length version agents p) (rows_length rows l))

  encode_after : dependency_bytes (encode version agents p rows l d) ≡ dependencies_part version d
  unfolding dependency_bytes encode
  encode_after =
      rw encode_end
      (at_fourth h (places_part version agents p) (rows_part rows l) (dependencies_part version d) HEADER (places_size version agents)
      (ROW_BYTES * rows) (header_length version agents rows size)
      (places_length version agents p) (rows_length rows l))

  after_byte : (k : ℕ) → k < dependencies_size version d.count → get_or (dependency_bytes (encode version agents p rows l d)) k 0 ≡ dependency_byte d k
  unfolding dependencies_part
  after_byte k m = rw encode_after (get_d_tabulate (dependency_byte d) (dependencies_size version d.count) k 0 m)

  module _ (f : Fits version agents p rows d.count) (typed : Typed agents p rows l d) where
    -- ---- rows and sources

    pub encode_row : (i : ℕ) → i < rows → row_of (row_bytes (encode version agents p rows l d)) i ≡ (entry_at l i).row
    encode_row i m = rw encode_part (row_back rows l i m (typed.entry i m))

    pub encode_source : (i : ℕ) → i < rows → sources_of (encode version agents p rows l d) i ≡ (entry_at l i).source.0
    unfolding sources_of
    encode_source i m = rw encode_part (source_back rows l i m (typed.entry i m))

    -- ---- dependencies

    pub encode_count : dependency_count (dependency_bytes (encode version agents p rows l d)) ≡ d.count
    unfolding dependency_count dependency_byte dependency_number
    encode_count = ⊎_elim with_count without (which (with_hosts version))
      where
        with_count : with_hosts version ≡ true → pair_at (dependency_bytes (encode version agents p rows l d)) 0 ≡ d.count
        with_count e =
            let n = after_hosts version d.count e in
            half_pair (dependency_bytes (encode version agents p rows l d)) 0 d.count typed.count refl (after_byte 0 (omega arith))
            (after_byte 1 (omega arith))

        without : with_hosts version ≡ false → pair_at (dependency_bytes (encode version agents p rows l d)) 0 ≡ d.count
        without e = ap (λ (x : List ℕ). pair_at x 0) (encode_after ∙ part_none version d e) ∙ pair_none ∙ sym (after_none f e)

    from_hosts : with_hosts version ≡ true → (k : ℕ) → k < d.count → dependency_from (dependency_bytes (encode version agents p rows l d)) k ≡ get_or d.first k 0
    unfolding dependency_from dependency_end dependency_byte
    from_hosts e k m =
        let n = after_hosts version d.count e in
        half_pair (dependency_bytes (encode version agents p rows l d)) (2 + k * DEPENDENCY_BYTES) (get_or d.first k 0) (typed.first k m) (omega arith)
        (after_byte (2 + k * DEPENDENCY_BYTES) (omega arith)
        ∙ ap (λ (v : ℕ). half v (2 + k * DEPENDENCY_BYTES)) (number_first d k (2 + k * DEPENDENCY_BYTES) (omega arith) (omega arith)))
        (after_byte (2 + k * DEPENDENCY_BYTES + 1) (omega arith)
        ∙ ap (λ (v : ℕ). half v (2 + k * DEPENDENCY_BYTES + 1)) (number_first d k (2 + k * DEPENDENCY_BYTES + 1) (omega arith) (omega arith)))

    to_hosts : with_hosts version ≡ true → (k : ℕ) → k < d.count → dependency_to (dependency_bytes (encode version agents p rows l d)) k ≡ get_or d.second k 0
    unfolding dependency_to dependency_end dependency_byte
    to_hosts e k m =
        let n = after_hosts version d.count e in
        half_pair (dependency_bytes (encode version agents p rows l d)) (4 + k * DEPENDENCY_BYTES) (get_or d.second k 0) (typed.second k m) (omega arith)
        (after_byte (4 + k * DEPENDENCY_BYTES) (omega arith)
        ∙ ap (λ (v : ℕ). half v (4 + k * DEPENDENCY_BYTES)) (number_second d k (4 + k * DEPENDENCY_BYTES) (omega arith) (omega arith)))
        (after_byte (4 + k * DEPENDENCY_BYTES + 1) (omega arith)
        ∙ ap (λ (v : ℕ). half v (4 + k * DEPENDENCY_BYTES + 1)) (number_second d k (4 + k * DEPENDENCY_BYTES + 1) (omega arith) (omega arith)))

    pub encode_from : (k : ℕ) → k < d.count → dependency_from (dependency_bytes (encode version agents p rows l d)) k ≡ get_or d.first k 0
    encode_from k m = ⊎_elim (λ e. from_hosts e k m) (λ e. absurd (let z = after_none f e in omega arith)) (which (with_hosts version))

    pub encode_to : (k : ℕ) → k < d.count → dependency_to (dependency_bytes (encode version agents p rows l d)) k ≡ get_or d.second k 0
    encode_to k m = ⊎_elim (λ e. to_hosts e k m) (λ e. absurd (let z = after_none f e in omega arith)) (which (with_hosts version))

    -- ---- places

    -- number m of agent x, whose first byte is byte q of the places
    place_pair : (x m q : ℕ) → x < agents → q % 2 ≡ 0 → q + 1 < places_size version agents → place_number (with_hosts version) p q ≡ number_of p x m
        → place_number (with_hosts version) p (q + 1) ≡ number_of p x m → (at : ℕ) → at ≡ HEADER + q
        → pair_at (encode version agents p rows l d) at ≡ number_of p x m
    unfolding place_byte
    place_pair x m q below_x even below_q first_is second_is at place_is =
        let n : HEADER + q + 1 ≡ HEADER + (q + 1) = omega arith in
        rw place_is
        (half_pair (encode version agents p rows l d) (HEADER + q) (number_of p x m) (typed.number x m below_x) (omega arith)
        (place_byte_lem q (omega arith) ∙ (ap (λ (y : ℕ). half y q) first_is ∙ half_at (number_of p x m) q (HEADER + q) (omega arith)))
        (ap (λ (y : ℕ). get_or (encode version agents p rows l d) y 0) n ∙ place_byte_lem (q + 1) below_q
        ∙ (ap (λ (y : ℕ). half y (q + 1)) second_is ∙ half_at (number_of p x m) (q + 1) (HEADER + q + 1) (omega arith))))

    place_four : with_hosts version ≡ true → (x m at : ℕ) → x < agents → m < 4 → at ≡ HEADER + (x * HOSTS_PLACE_BYTES + 2 * m)
        → pair_at (encode version agents p rows l d) at ≡ number_of p x m
    place_four e x m at b c r =
        let n = places_hosts version agents e in
        place_pair x m (x * HOSTS_PLACE_BYTES + 2 * m) b (omega arith) (omega arith)
        (subst (λ (y : ℕ). place_number (with_hosts version) p y ≡ number_of p x m) (plus_none (x * HOSTS_PLACE_BYTES + 2 * m))
        (rw e (number_four p x m 0 (omega arith) c)))
        (rw e (number_four p x m 1 (omega arith) c)) at r

    place_three : with_hosts version ≡ false → (x m at : ℕ) → x < agents → m < 3 → at ≡ HEADER + (x * PLACE_BYTES + 2 * m)
        → pair_at (encode version agents p rows l d) at ≡ number_of p x m
    place_three e x m at b c r =
        let n = places_plain version agents e in
        place_pair x m (x * PLACE_BYTES + 2 * m) b (omega arith) (omega arith)
        (subst (λ (y : ℕ). place_number (with_hosts version) p y ≡ number_of p x m) (plus_none (x * PLACE_BYTES + 2 * m))
        (rw e (number_three p x m 0 (omega arith) c)))
        (rw e (number_three p x m 1 (omega arith) c)) at r

    slot : (x : ℕ) → x < agents → x < AGENTS
    slot x b = let few = agents_few f in omega arith

    four_back : with_hosts version ≡ true → (x : ℕ) → x < agents → any_place_at (encode version agents p rows l d) x ≡ get_or p x []
    unfolding any_place_at number_of
    four_back e x b =
        rw (
          place_four e x 0 (HEADER + x * HOSTS_PLACE_BYTES + 0) b (omega arith) (omega arith),
          place_four e x 1 (HEADER + x * HOSTS_PLACE_BYTES + 2) b (omega arith) (omega arith),
          place_four e x 2 (HEADER + x * HOSTS_PLACE_BYTES + 4) b (omega arith) (omega arith),
          place_four e x 3 (HEADER + x * HOSTS_PLACE_BYTES + 6) b (omega arith) (omega arith),
        )
        (four_of (get_or p x []) (typed.four x (slot x b)))

    -- without host agents the fourth number is 0
    three_back : with_hosts version ≡ false → (x : ℕ) → x < agents → shader_place_at (encode version agents p rows l d) x ≡ get_or p x []
    unfolding shader_place_at number_of agent_kind
    three_back e x b =
        rw (
          place_three e x 0 (HEADER + x * PLACE_BYTES + 0) b (omega arith) (omega arith),
          place_three e x 1 (HEADER + x * PLACE_BYTES + 2) b (omega arith) (omega arith),
          place_three e x 2 (HEADER + x * PLACE_BYTES + 4) b (omega arith) (omega arith),
        )
        (ap (λ (y : ℕ). get_or (get_or p x []) 0 0 ∷ get_or (get_or p x []) 1 0 ∷ get_or (get_or p x []) 2 0 ∷ y ∷ []) (sym (number_plain f e x b))
        ∙ four_of (get_or p x []) (typed.four x (slot x b)))

    pub encode_place : (x : ℕ) → x < agents → place_at (encode version agents p rows l d) x ≡ get_or p x []
    unfolding place_at
    encode_place x b = rw encode_hosts (⊎_elim on off (which (with_hosts version)))
      where
        on : with_hosts version ≡ true
            → cond (with_hosts version) (any_place_at (encode version agents p rows l d) x) (shader_place_at (encode version agents p rows l d) x) ≡ get_or p x []
        on e = rw e (four_back e x b)

        off : with_hosts version ≡ false
            → cond (with_hosts version) (any_place_at (encode version agents p rows l d) x) (shader_place_at (encode version agents p rows l d) x) ≡ get_or p x []
        off e = rw e (three_back e x b)

    pub encode_slot : (x : ℕ) → x < agents → get_or (places_of (encode version agents p rows l d)) x [] ≡ get_or p x []
    unfolding places_of slot_at
    encode_slot x b =
        let few = agents_few f in
        get_d_tabulate (slot_at (encode version agents p rows l d)) AGENTS x [] (omega arith) ∙ rw (encode_agents, lt-ltb x agents b) (encode_place x b)

    -- ---- no refusal but 18 is left for the header

    encode_size : size_of (encode version agents p rows l d) ≡ table_size version agents rows d.count
    unfolding size_of table_size dependencies_size
    encode_size = rw (encode_hosts, count_at_lem (encode version agents p rows l d), encode_count, encode_end)
        (end_either (with_hosts version) (HEADER + places_size version agents + ROW_BYTES * rows) d.count)

    encode_quad : count_at (encode version agents p rows l d) + 4 ≡ table_size version agents rows d.count
    unfolding count_at quad_at pair_at header_list
    encode_quad =
        let most = size_most version agents rows d.count (agents_few f) (rows_few f) (after_few f) in
        let least = size_least version agents rows d.count in
        rw (header_byte 0 (omega arith), header_byte 1 (omega arith), header_byte 2 (omega arith), header_byte 3 (omega arith)) (omega arith)

    encode_known : agents_known (encode version agents p rows l d) ≡ true
    unfolding agents_known kind_over agent_kind
    encode_known = rw encode_agents (not_in (any_not (kind_over (places_of (encode version agents p rows l d))) agents
        (λ x b. rw (encode_slot x b) (le-ltb QUEUE (agent_kind p x) (kind_least x b)))))
      where
        kind_least : (x : ℕ) → x < agents → agent_kind p x ≤ QUEUE
        kind_least x b = ⊎_elim (λ e. number_hosts f e x b) (λ e. let z = number_plain f e x b in omega arith) (which (with_hosts version))

    pub encode_fault : header_fault (encode version agents p rows l d) ≡ cond (dependencies_named (encode version agents p rows l d)) 0 18
    unfolding header_fault version_fits limits_fit length_fits hosts_fault dependencies_few ◌and◌ shape_or
    encode_fault =
        let n : HEADER ≤ length (encode version agents p rows l d) = rw (encode_length version agents p rows l d) (size_least version agents rows d.count) in
        rw (
          le-leb HEADER (length (encode version agents p rows l d)) n,
          encode_version,
          le-leb VERSION_PLAIN version (version_first f),
          le-leb version VERSION_HOSTS (version_last f),
          encode_zero,
          encode_agents,
          le-leb agents AGENTS (agents_few f),
          encode_rows,
          le-leb rows ROWS (rows_few f),
          encode_quad,
          encode_size,
          encode_length version agents p rows l d,
          eq-eqb (table_size version agents rows d.count) (table_size version agents rows d.count) refl,
          encode_known,
          encode_count,
          le-leb d.count DEPENDENCIES (after_few f),
        ) refl
