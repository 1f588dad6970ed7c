-- What the joined table of two pieces is. Assumes nothing.
use Rattle.std.specs.Prelude.{◌≡◌, Bool, ◌⊎◌, ℕ, zero, suc, ◌+◌, ◌-◌, ◌*◌, ◌/◌, ◌%◌, ◌≤◌, ◌<◌, get_or, take, replicate, ltb, leb, eqb}
use Rattle.std.specs.declared.option.Option.{Option}
use Rattle.std.specs.declared.option.Option.TheVariants.{None, Some}
use Rattle.std.proofs.Math.Path.{refl, sym, ap}
use Rattle.std.proofs.Common.{◌∙◌, subst, inl, inr, ext_get_or, take-add, drop-drop, take-take, take_at}
use Rattle.std.proofs.Math.Bool.{true, false, cond}
use mathlib.Core.List.{List, [], ◌∷◌, ◌++◌, append-nil, append_assoc}
use native.Mathlib.Omega.{arith}
use Rattle.std.proofs.Math.Decide.{dec_lt, ℕ_discrete}
use Rattle.std.proofs.Math.ListN.{length, drop, length-append, length-drop, get_or-append}
use Rattle.std.proofs.Math.Seq.{get_or-drop, get_or-take, get_or-append-add, drop-append-add, length-take-le, drop_at, paste, length_paste_head}
use Rattle.std.proofs.lemmas.List.{drop-append-le, take-append-le}
use borrow.Author.Tests.{eqb-true, leb-true, eq-eqb, ne_eqb, le-leb, lt-ltb, le-ltb}
use Rattle.finite.specs.Logic.{split, and_true, not_both, which}
use Rattle.finite.specs.Lists.{tabulate, length_tabulate, get_d_tabulate, tabulate_cong}
use Rattle.model.specs.declared.Admission.TheVariants.{Refused}
use Rattle.model.specs.Limits.{AGENTS, ROWS}
use Rattle.model.specs.Header.{HEADER, ROW_BYTES, PLACE_BYTES, HOSTS_PLACE_BYTES, DEPENDENCY_BYTES, pair_at, quad_at, count_at, version_at}
use Rattle.model.specs.Header.{zero_at, agents_at, rows_at, has_hosts, shader_place_at, any_place_at, place_at, slot_at, places_of, rows_begin, rows_end, size_of, row_bytes}
use Rattle.model.specs.Table.{mode_of, table_under, sources_of}
use Rattle.model.specs.Header.{dependency_bytes}
use Rattle.model.specs.Refusal.{shape_or, version_fits, limits_fit, length_fits, hosts_fault, header_fault, admission, shape_fault}
use Rattle.door_admit.specs.Rows.{hosts_fault_in, rows_admission}
use Rattle.door_admit.proofs.Laws.{hosts_is, shape_passed, header_refused, header_passed}
use Rattle.door_pieces.specs.Pieces.{AREA, area_of, rows_both, pieces_fault, header_of, place_bytes, joined, of_both, admission_both, early_fault, row_part}
use Rattle.door_pieces.specs.Pieces.{row_place, part_at}
use Rattle.door_pieces.specs.declared.RowPlace.{RowPlace}
use Rattle.door_pieces.specs.declared.RowPlace.TheVariants as place

-- ---- a first piece that is not refused for 1 to 4

shape_cases : (a b c d : Bool) → ◌≡◌ {A = ℕ} (cond a (cond b (cond c (cond d 0 4) 3) 2) 1) 0 → (a ≡ true) × (b ≡ true) × (c ≡ true) × (d ≡ true)
shape_cases true true true true e = (refl, refl, refl, refl)
shape_cases true true true false e = absurd (omega arith)
shape_cases true true false d e = absurd (omega arith)
shape_cases true false c d e = absurd (omega arith)
shape_cases false b c d e = absurd (omega arith)

module _ (f : List ℕ) where
  pub begin_header : HEADER ≤ rows_begin f
  unfolding rows_begin
  begin_header = go (has_hosts f)
    where
      go : (b : Bool) → HEADER ≤ cond b (HEADER + HOSTS_PLACE_BYTES * agents_at f) (HEADER + PLACE_BYTES * agents_at f)
      go true = omega arith
      go false = omega arith

  pub end_is : rows_end f ≡ rows_begin f + ROW_BYTES * rows_at f
  unfolding rows_end
  end_is = refl

  begin_four : has_hosts f ≡ true → rows_begin f ≡ HEADER + HOSTS_PLACE_BYTES * agents_at f
  unfolding rows_begin
  begin_four e = rw e refl

  begin_three : has_hosts f ≡ false → rows_begin f ≡ HEADER + PLACE_BYTES * agents_at f
  unfolding rows_begin
  begin_three e = rw e refl

  place_byte_lem : (k : ℕ) → k < rows_begin f - HEADER → get_or (place_bytes f) k 0 ≡ get_or f (HEADER + k) 0
  unfolding place_bytes
  place_byte_lem k l = get_or-take (rows_begin f - HEADER) (drop HEADER f) k 0 l ∙ get_or-drop HEADER f k 0

  after : dependency_bytes f ≡ drop (rows_end f) f
  unfolding dependency_bytes
  after = refl

  end_size : rows_end f ≤ size_of f
  unfolding size_of
  end_size = go (has_hosts f)
    where
      go : (b : Bool) → rows_end f ≤ cond b (rows_end f + 2 + DEPENDENCY_BYTES * pair_at f (rows_end f)) (rows_end f)
      go true = omega arith
      go false = omega arith

  module _ (z : shape_fault f ≡ 0) where
    passed : (leb HEADER (length f) ≡ true) × (version_fits f ≡ true) × (limits_fit f ≡ true) × (length_fits f ≡ true)
    unfolding shape_fault shape_or
    passed = shape_cases (leb HEADER (length f)) (version_fits f) (limits_fit f) (length_fits f) z

    pub shape_version : version_fits f ≡ true
    shape_version = passed.1

    pub shape_agents : leb (agents_at f) AGENTS ≡ true
    unfolding limits_fit
    shape_agents = (split passed.2).0

    pub shape_rows : rows_at f ≤ ROWS
    unfolding limits_fit
    shape_rows = leb-true (rows_at f) ROWS (split passed.2).1

    pub shape_length : length f ≡ size_of f
    unfolding length_fits
    shape_length = eqb-true (length f) (size_of f) (split passed.3).1

    -- the rows end where the table does or before
    pub shape_end : rows_begin f + ROW_BYTES * rows_at f ≤ length f
    shape_end = let a = shape_length in let b = end_size in let c = end_is in omega arith

    places_length : length (place_bytes f) ≡ rows_begin f - HEADER
    unfolding place_bytes
    places_length = let a = shape_end in length-take-le (rows_begin f - HEADER) (drop HEADER f) (rw (length-drop HEADER f) (omega arith))

    pub rows_length : length (row_bytes f) ≡ ROW_BYTES * rows_at f
    unfolding row_bytes
    rows_length = let a = shape_end in length-take-le (ROW_BYTES * rows_at f) (drop (rows_begin f) f) (rw (length-drop (rows_begin f) f) (omega arith))

    dependencies_length : length (dependency_bytes f) ≡ length f - (rows_begin f + ROW_BYTES * rows_at f)
    unfolding dependency_bytes
    dependencies_length = length-drop (rows_end f) f ∙ ap (λ (k : ℕ). length f - k) end_is

-- ---- two pieces that are not refused for 1 to 4, 40 and 3

pieces_cases : (a b c : Bool) (h : ℕ) → ◌≡◌ {A = ℕ} (cond a (cond b (cond c 0 3) 40) h) 0 → a ≡ eqb h 0 → (h ≡ 0) × (b ≡ true) × (c ≡ true)
pieces_cases true true true h e f = (eqb-true h 0 (sym f), refl, refl)
pieces_cases true true false h e f = absurd (omega arith)
pieces_cases true false c h e f = absurd (omega arith)
pieces_cases false b c h e f = not_both (eq-eqb h 0 e) (sym f)

pair_drop : (x : List ℕ) (k : ℕ) → pair_at (drop k x) 0 ≡ pair_at x k
unfolding pair_at
pair_drop x k =
    let a : k + 0 ≡ k = omega arith in
    rw (get_or-drop k x 0 0, get_or-drop k x 1 0, a) refl

module _ (f s : List ℕ) (z : pieces_fault f s ≡ 0) where
  right : (shape_fault f ≡ 0) × (eqb (length s % ROW_BYTES) 0 ≡ true) × (leb (rows_both f s) ROWS ≡ true)
  unfolding pieces_fault
  right = pieces_cases (eqb (shape_fault f) 0) (eqb (length s % ROW_BYTES) 0) (leb (rows_both f s) ROWS) (shape_fault f) z refl

  pub first_right : shape_fault f ≡ 0
  first_right = right.0

  pub both_fit : rows_both f s ≤ ROWS
  both_fit = leb-true (rows_both f s) ROWS right.2

  pub both_length : ROW_BYTES * rows_both f s ≡ ROW_BYTES * rows_at f + length s
  unfolding rows_both
  both_length = let e : length s % ROW_BYTES ≡ 0 = eqb-true (length s % ROW_BYTES) 0 right.1 in omega arith

  -- ---- its header

  pub joined_version : version_at (joined f s) ≡ version_at f
  unfolding joined header_of version_at
  joined_version = refl

  pub joined_agents : agents_at (joined f s) ≡ agents_at f
  unfolding joined header_of agents_at
  joined_agents = refl

  pub joined_rows : rows_at (joined f s) ≡ rows_both f s
  unfolding joined header_of rows_at
  joined_rows = refl

  joined_zero : zero_at (joined f s) ≡ zero_at f
  unfolding joined header_of zero_at
  joined_zero = refl

  pub joined_hosts : has_hosts (joined f s) ≡ has_hosts f
  unfolding has_hosts
  joined_hosts = rw joined_version refl

  joined_begin : rows_begin (joined f s) ≡ rows_begin f
  unfolding rows_begin
  joined_begin = rw (joined_hosts, joined_agents) refl

  header_long : length (header_of f s) ≡ HEADER
  unfolding header_of
  header_long = refl

  -- ---- its rows and dependencies

  after_places : drop (rows_begin f) (joined f s) ≡ (row_bytes f ++ s) ++ dependency_bytes f
  unfolding joined
  after_places =
      let b = begin_header f in
      let e : HEADER + (rows_begin f - HEADER) ≡ rows_begin f = omega arith in
      ap (λ (k : ℕ). drop k (header_of f s ++ (place_bytes f ++ (row_bytes f ++ (s ++ dependency_bytes f))))) (sym e)
      ∙ sym (drop-drop (rows_begin f - HEADER) HEADER (header_of f s ++ (place_bytes f ++ (row_bytes f ++ (s ++ dependency_bytes f)))))
      ∙ ap (drop (rows_begin f - HEADER)) (drop_at (header_of f s) (place_bytes f ++ (row_bytes f ++ (s ++ dependency_bytes f))) HEADER header_long)
      ∙ drop_at (place_bytes f) (row_bytes f ++ (s ++ dependency_bytes f)) (rows_begin f - HEADER) (places_length f first_right)
      ∙ sym (append_assoc (row_bytes f) s (dependency_bytes f))

  pub bytes_length : length (row_bytes f ++ s) ≡ ROW_BYTES * rows_both f s
  bytes_length = length-append (row_bytes f) s ∙ rw (rows_length f first_right) (sym both_length)

  rows_start : row_bytes (joined f s) ≡ take (ROW_BYTES * rows_both f s) (drop (rows_begin f) (joined f s))
  unfolding row_bytes
  rows_start = rw (joined_rows, joined_begin) refl

  -- its rows' bytes are those of both, in order
  pub joined_bytes : row_bytes (joined f s) ≡ row_bytes f ++ s
  joined_bytes =
      rows_start ∙ ap (take (ROW_BYTES * rows_both f s)) after_places
      ∙ take_at (row_bytes f ++ s) (dependency_bytes f) (ROW_BYTES * rows_both f s) bytes_length

  joined_end : rows_end (joined f s) ≡ rows_begin f + ROW_BYTES * rows_both f s
  joined_end = end_is (joined f s) ∙ rw (joined_begin, joined_rows) refl

  -- the dependencies stay with the first piece
  pub joined_dependencies : dependency_bytes (joined f s) ≡ dependency_bytes f
  joined_dependencies =
      after (joined f s) ∙ ap (λ (k : ℕ). drop k (joined f s)) joined_end
      ∙ sym (drop-drop (ROW_BYTES * rows_both f s) (rows_begin f) (joined f s))
      ∙ ap (drop (ROW_BYTES * rows_both f s)) after_places
      ∙ drop_at (row_bytes f ++ s) (dependency_bytes f) (ROW_BYTES * rows_both f s) bytes_length

  pub joined_mode : (chains : Bool) → mode_of chains (joined f s) ≡ mode_of chains f
  unfolding mode_of
  joined_mode chains = rw (joined_version, joined_dependencies) refl

  -- ---- its length

  pub joined_length : length (joined f s) ≡ length f + length s
  unfolding joined
  joined_length =
      rw (
        length-append (header_of f s) (place_bytes f ++ (row_bytes f ++ (s ++ dependency_bytes f))),
        length-append (place_bytes f) (row_bytes f ++ (s ++ dependency_bytes f)),
        length-append (row_bytes f) (s ++ dependency_bytes f),
        length-append s (dependency_bytes f),
        header_long,
        places_length f first_right,
        rows_length f first_right,
        dependencies_length f first_right,
      )
      (let a = shape_end f first_right in let b = begin_header f in omega arith)

  long_enough : HEADER ≤ length f
  long_enough = let a = shape_end f first_right in let b = begin_header f in omega arith

  joined_count : count_at (joined f s) + 4 ≡ length f + length s
  unfolding joined header_of count_at quad_at pair_at
  joined_count = digits (length f + length s) (let l = long_enough in omega arith)
    where
      digits : (n : ℕ) → 4 ≤ n → ((n - 4) / 16777216 * 256 + (n - 4) / 65536 % 256) * 65536 + ((n - 4) / 256 % 256 * 256 + (n - 4) % 256) + 4 ≡ n
      digits n l = omega arith

  dependency_count_lem : pair_at (joined f s) (rows_end (joined f s)) ≡ pair_at f (rows_end f)
  unfolding dependency_bytes
  dependency_count_lem = sym (pair_drop (joined f s) (rows_end (joined f s))) ∙ ap (λ (d : List ℕ). pair_at d 0) joined_dependencies ∙ pair_drop f (rows_end f)

  joined_size : size_of (joined f s) ≡ length f + length s
  unfolding size_of
  joined_size = rw (joined_hosts, dependency_count_lem) (go (has_hosts f) size)
    where
      size : length f ≡ cond (has_hosts f) (rows_end f + 2 + DEPENDENCY_BYTES * pair_at f (rows_end f)) (rows_end f)
      size = shape_length f first_right

      longer : rows_end (joined f s) ≡ rows_end f + length s
      longer = let a = joined_end in let b = end_is f in let c = both_length in omega arith

      go : (b : Bool) → length f ≡ cond b (rows_end f + 2 + DEPENDENCY_BYTES * pair_at f (rows_end f)) (rows_end f)
          → cond b (rows_end (joined f s) + 2 + DEPENDENCY_BYTES * pair_at f (rows_end f)) (rows_end (joined f s)) ≡ length f + length s
      go true e = let l = longer in omega arith
      go false e = let l = longer in omega arith

  -- ---- no refusal 1 to 4 holds of it

  joined_fits : length_fits (joined f s) ≡ true
  unfolding length_fits
  joined_fits =
      and_true (eq-eqb (count_at (joined f s) + 4) (size_of (joined f s)) (joined_count ∙ sym joined_size))
      (eq-eqb (length (joined f s)) (size_of (joined f s)) (joined_length ∙ sym joined_size))

  joined_limits : limits_fit (joined f s) ≡ true
  unfolding limits_fit
  joined_limits = rw (joined_agents, joined_rows) (and_true (shape_agents f first_right) (le-leb (rows_both f s) ROWS both_fit))

  joined_versions : version_fits (joined f s) ≡ true
  unfolding version_fits
  joined_versions = rw (joined_version, joined_zero) (shape_version f first_right)

  pub joined_shape : shape_fault (joined f s) ≡ 0
  unfolding shape_fault shape_or
  joined_shape =
      let l : HEADER ≤ length (joined f s) = rw joined_length (let h = long_enough in omega arith) in
      rw (le-leb HEADER (length (joined f s)) l, joined_versions, joined_limits, joined_fits) refl

  -- ---- its places are the first piece's

  kept : (k : ℕ) → k < rows_begin f - HEADER → get_or (joined f s) (HEADER + k) 0 ≡ get_or f (HEADER + k) 0
  unfolding joined header_of
  kept k l =
      get_or-append-add (header_of f s) (place_bytes f ++ (row_bytes f ++ (s ++ dependency_bytes f))) k 0
      ∙ get_or-append (place_bytes f) (row_bytes f ++ (s ++ dependency_bytes f)) 0 k (rw (places_length f first_right) l)
      ∙ place_byte_lem f k l

  pair_kept : (k : ℕ) → k + 1 < rows_begin f - HEADER → pair_at (joined f s) (HEADER + k) ≡ pair_at f (HEADER + k)
  unfolding pair_at
  pair_kept k l =
      let e : HEADER + k + 1 ≡ HEADER + (k + 1) = omega arith in
      rw (e, kept k (omega arith), kept (k + 1) l) refl

  four_kept : (a : ℕ) → has_hosts f ≡ true → a < agents_at f → any_place_at (joined f s) a ≡ any_place_at f a
  unfolding any_place_at
  four_kept a h l =
      let b : rows_begin f ≡ HEADER + HOSTS_PLACE_BYTES * agents_at f = begin_four f h in
      let e0 : HEADER + a * HOSTS_PLACE_BYTES + 0 ≡ HEADER + (a * HOSTS_PLACE_BYTES + 0) = omega arith in
      let e2 : HEADER + a * HOSTS_PLACE_BYTES + 2 ≡ HEADER + (a * HOSTS_PLACE_BYTES + 2) = omega arith in
      let e4 : HEADER + a * HOSTS_PLACE_BYTES + 4 ≡ HEADER + (a * HOSTS_PLACE_BYTES + 4) = omega arith in
      let e6 : HEADER + a * HOSTS_PLACE_BYTES + 6 ≡ HEADER + (a * HOSTS_PLACE_BYTES + 6) = omega arith in
      rw (
        e0,
        e2,
        e4,
        e6,
        pair_kept (a * HOSTS_PLACE_BYTES + 0) (omega arith),
        pair_kept (a * HOSTS_PLACE_BYTES + 2) (omega arith),
        pair_kept (a * HOSTS_PLACE_BYTES + 4) (omega arith),
        pair_kept (a * HOSTS_PLACE_BYTES + 6) (omega arith),
      ) refl

  three_kept : (a : ℕ) → has_hosts f ≡ false → a < agents_at f → shader_place_at (joined f s) a ≡ shader_place_at f a
  unfolding shader_place_at
  three_kept a h l =
      let b : rows_begin f ≡ HEADER + PLACE_BYTES * agents_at f = begin_three f h in
      let e0 : HEADER + a * PLACE_BYTES + 0 ≡ HEADER + (a * PLACE_BYTES + 0) = omega arith in
      let e2 : HEADER + a * PLACE_BYTES + 2 ≡ HEADER + (a * PLACE_BYTES + 2) = omega arith in
      let e4 : HEADER + a * PLACE_BYTES + 4 ≡ HEADER + (a * PLACE_BYTES + 4) = omega arith in
      rw (
        e0,
        e2,
        e4,
        pair_kept (a * PLACE_BYTES + 0) (omega arith),
        pair_kept (a * PLACE_BYTES + 2) (omega arith),
        pair_kept (a * PLACE_BYTES + 4) (omega arith),
      ) refl

  place_kept : (a : ℕ) → a < agents_at f → place_at (joined f s) a ≡ place_at f a
  unfolding place_at
  place_kept a l = rw joined_hosts (go (which (has_hosts f)))
    where
      go : (has_hosts f ≡ true) ⊎ (has_hosts f ≡ false)
          → cond (has_hosts f) (any_place_at (joined f s) a) (shader_place_at (joined f s) a) ≡ cond (has_hosts f) (any_place_at f a) (shader_place_at f a)
      go (inl h) = rw h (four_kept a h l)
      go (inr h) = rw h (three_kept a h l)

  slot_kept : (a : ℕ) → slot_at (joined f s) a ≡ slot_at f a
  unfolding slot_at
  slot_kept a = rw joined_agents (go (dec_lt a (agents_at f)))
    where
      go : Dec (a < agents_at f)
          → cond (ltb a (agents_at f)) (place_at (joined f s) a) (0 ∷ 0 ∷ 0 ∷ 0 ∷ []) ≡ cond (ltb a (agents_at f)) (place_at f a) (0 ∷ 0 ∷ 0 ∷ 0 ∷ [])
      go (yes l) = rw (place_kept a l) refl
      go (no l) = rw (le-ltb a (agents_at f) (omega arith)) refl

  pub joined_places : places_of (joined f s) ≡ places_of f
  unfolding places_of
  joined_places = tabulate_cong (slot_at (joined f s)) (slot_at f) AGENTS (λ k l. slot_kept k)

  -- ---- 16 to 18, and the rows' refusals, from the pieces

  pub joined_hosts_fault : hosts_fault (joined f s) ≡ hosts_fault_in (places_of f) (agents_at f) (dependency_bytes f) (rows_both f s)
  joined_hosts_fault = hosts_is (joined f s) ∙ rw (joined_places, joined_agents, joined_dependencies, joined_rows) refl

  joined_header : header_fault (joined f s) ≡ hosts_fault (joined f s)
  joined_header = shape_passed (joined f s) 0 (sym joined_shape) refl

  -- the answer is that of the joined table
  pub of_joined : {A : Type 0} (refused : ℕ → ℕ → A) (one : List ℕ → A) → of_both refused one f s ≡ one (joined f s)
  unfolding of_both
  of_joined refused one = rw z refl

  pub joined_refused : (blanks : Bool) (h : ℕ) → h ≡ hosts_fault (joined f s) → (h ≡ 0 → ⊥) → admission blanks (joined f s) ≡ Refused h 0
  joined_refused blanks h e n = header_refused blanks (joined f s) h (e ∙ sym joined_header) n

  pub joined_passed : (blanks : Bool) → hosts_fault (joined f s) ≡ 0
      → admission blanks (joined f s) ≡ rows_admission blanks (has_hosts f) (agents_at f) (row_bytes (joined f s)) (places_of f) (mode_of false f).counted (rows_both f s)
  joined_passed blanks e =
      header_passed blanks (joined f s) 0 (sym (joined_header ∙ e)) refl
      ∙ rw (joined_hosts, joined_agents, joined_places, joined_mode false, joined_rows) refl

-- ---- every other pair

pub of_refused : {A : Type 0} (refused : ℕ → ℕ → A) (one : List ℕ → A) (f s : List ℕ) (h : ℕ) → h ≡ pieces_fault f s → (h ≡ 0 → ⊥)
    → of_both refused one f s ≡ refused h 0
unfolding of_both
of_refused refused one f s h e n = rw (← e, ne_eqb h 0 n) refl

pub early_refused : (blanks : Bool) (f s : List ℕ) (h : ℕ) → h ≡ early_fault f s → (h ≡ 0 → ⊥) → admission_both blanks f s ≡ Refused h 0
unfolding admission_both early_fault
early_refused blanks f s h e n = go (ℕ_discrete (pieces_fault f s) 0)
  where
    go : Dec (pieces_fault f s ≡ 0) → of_both Refused (admission blanks) f s ≡ Refused h 0
    go (yes z) = of_joined f s z Refused (admission blanks) ∙ joined_refused f s z blanks h (e ∙ rw z refl) n
    go (no d) =
        let q : h ≡ pieces_fault f s = e ∙ rw (ne_eqb (pieces_fault f s) 0 d) refl in
        of_refused Refused (admission blanks) f s h q n

-- a pair that no refusal before 5 holds of
module _ (f s : List ℕ) (h : ℕ) (e : h ≡ early_fault f s) (z : h ≡ 0) where
  pub early_pieces : pieces_fault f s ≡ 0
  unfolding early_fault
  early_pieces = go (ℕ_discrete (pieces_fault f s) 0)
    where
      go : Dec (pieces_fault f s ≡ 0) → pieces_fault f s ≡ 0
      go (yes q) = q
      go (no d) = sym (sym z ∙ e ∙ rw (ne_eqb (pieces_fault f s) 0 d) refl)

  early_hosts : hosts_fault (joined f s) ≡ 0
  unfolding early_fault
  early_hosts = sym (sym z ∙ e ∙ rw early_pieces refl)

  pub early_passed : (blanks : Bool)
      → admission_both blanks f s ≡ rows_admission blanks (has_hosts f) (agents_at f) (row_bytes (joined f s)) (places_of f) (mode_of false f).counted (rows_both f s)
  unfolding admission_both
  early_passed blanks = of_joined f s early_pieces Refused (admission blanks) ∙ joined_passed f s early_pieces blanks early_hosts

-- the number before 5, as code finds it
pub pieces_first : (f s : List ℕ) (h : ℕ) → h ≡ shape_fault f → (h ≡ 0 → ⊥) → h ≡ pieces_fault f s
unfolding pieces_fault
pieces_first f s h e n = rw (← e, ne_eqb h 0 n) refl

pub early_first : (f s : List ℕ) (h : ℕ) → h ≡ pieces_fault f s → (h ≡ 0 → ⊥) → h ≡ early_fault f s
unfolding early_fault
early_first f s h e n = rw (← e, ne_eqb h 0 n) refl

pub early_second : (f s : List ℕ) (h r : ℕ) → h ≡ pieces_fault f s → h ≡ 0
    → r ≡ hosts_fault_in (places_of f) (agents_at f) (dependency_bytes f) (rows_both f s) → r ≡ early_fault f s
unfolding early_fault
early_second f s h r e z q =
    let p : pieces_fault f s ≡ 0 = sym e ∙ z in
    rw p (q ∙ sym (joined_hosts_fault f s p))

-- ---- a second piece that is empty

module _ (f : List ℕ) where
  none_both : rows_both f [] ≡ rows_at f
  unfolding rows_both
  none_both = omega arith

  pub none_fault : pieces_fault f [] ≡ shape_fault f
  unfolding pieces_fault
  none_fault = go (ℕ_discrete (shape_fault f) 0)
    where
      go : Dec (shape_fault f ≡ 0)
          → cond (eqb (shape_fault f) 0) (cond (eqb (0 % ROW_BYTES) 0) (cond (leb (rows_both f []) ROWS) 0 3) 40) (shape_fault f) ≡ shape_fault f
      go (yes z) = rw (z, none_both, le-leb (rows_at f) ROWS (shape_rows f z)) refl
      go (no d) = rw (ne_eqb (shape_fault f) 0 d) refl

  module _ (z : shape_fault f ≡ 0) where
    zero_fault : pieces_fault f [] ≡ 0
    zero_fault = none_fault ∙ z

    none_bytes : row_bytes (joined f []) ≡ row_bytes f
    none_bytes = joined_bytes f [] zero_fault ∙ append-nil (row_bytes f)

    -- the joined table says what the table says
    pub none_table : (chains : Bool) → table_under chains (joined f []) ≡ table_under chains f
    unfolding table_under
    none_table chains = rw (none_bytes, joined_places f [] zero_fault, joined_mode f [] zero_fault chains, joined_rows f [] zero_fault, none_both) refl

    pub none_sources : sources_of (joined f []) ≡ sources_of f
    unfolding sources_of
    none_sources = rw none_bytes refl

    none_hosts : hosts_fault (joined f []) ≡ hosts_fault f
    none_hosts = joined_hosts_fault f [] zero_fault ∙ rw none_both (sym (hosts_is f))

    none_header : header_fault f ≡ hosts_fault (joined f [])
    none_header = shape_passed f 0 (sym z) refl ∙ sym none_hosts

    pub none_admission : (blanks : Bool) → admission blanks (joined f []) ≡ admission blanks f
    none_admission blanks = go (ℕ_discrete (hosts_fault (joined f [])) 0)
      where
        go : Dec (hosts_fault (joined f []) ≡ 0) → admission blanks (joined f []) ≡ admission blanks f
        go (yes h) =
            joined_passed f [] zero_fault blanks h ∙ rw (none_bytes, none_both) refl
            ∙ sym (header_passed blanks f 0 (sym (none_header ∙ h)) refl)
        go (no d) =
            joined_refused f [] zero_fault blanks (hosts_fault (joined f [])) refl d
            ∙ sym (header_refused blanks f (hosts_fault (joined f [])) (sym none_header) d)

-- ---- row n

-- it lies in its piece
pub first_end : (f s : List ℕ) (n h r b : ℕ) → h ≡ early_fault f s → h ≡ 0 → r ≡ rows_at f → n < r → b ≡ rows_begin f → b + ROW_BYTES * n + ROW_BYTES ≤ length f
first_end f s n h r b fault_is passed rows_are below_n begin_is = let a = shape_end f (first_right f s (early_pieces f s h fault_is passed)) in omega arith

pub second_end : (f s : List ℕ) (n r b : ℕ) → r ≡ rows_at f → r ≤ n → b ≡ rows_both f s → n < b → ROW_BYTES * (n - r) + ROW_BYTES ≤ length s
unfolding rows_both
second_end f s n r b q h w l = omega arith

module _ (f s : List ℕ) (n h : ℕ) (e : h ≡ early_fault f s) where
  pub part_refused : (h ≡ 0 → ⊥) → row_part f s n ≡ []
  unfolding row_part
  part_refused d = rw (← e, ne_eqb h 0 d) refl

  module _ (z : h ≡ 0) (r : ℕ) (q : r ≡ rows_at f) where
    pub part_first : n < r → row_part f s n ≡ take ROW_BYTES (drop (rows_begin f + ROW_BYTES * n) f)
    unfolding row_part
    part_first l = rw (← e, z, ← q, lt-ltb n r l) refl

    module _ (b : ℕ) (w : b ≡ rows_both f s) (k : r ≤ n) where
      pub part_second : n < b → row_part f s n ≡ take ROW_BYTES (drop (ROW_BYTES * (n - r)) s)
      unfolding row_part
      part_second l = rw (← e, z, ← q, ← w, le-ltb n r k, lt-ltb n b l) refl

      pub part_past : b ≤ n → row_part f s n ≡ []
      unfolding row_part
      part_past l = rw (← e, z, ← q, ← w, le-ltb n r k, le-ltb n b l) refl

rows_drop : (f : List ℕ) (n : ℕ) → shape_fault f ≡ 0 → n < rows_at f
    → take ROW_BYTES (drop (ROW_BYTES * n) (row_bytes f)) ≡ take ROW_BYTES (drop (rows_begin f + ROW_BYTES * n) f)
unfolding row_bytes
rows_drop f n z l =
    let a = shape_end f z in
    taken (ROW_BYTES * rows_at f) (ROW_BYTES * n) (drop (rows_begin f) f) (omega arith) (rw (length-drop (rows_begin f) f) (omega arith))
    ∙ ap (take ROW_BYTES) (drop-drop (ROW_BYTES * n) (rows_begin f) f)
  where
    taken : (m k : ℕ) (x : List ℕ) → k + ROW_BYTES ≤ m → k ≤ length x → take ROW_BYTES (drop k (take m x)) ≡ take ROW_BYTES (drop k x)
    taken m k x h q =
        let e : k + (m - k) ≡ m = omega arith in
        ap (λ (j : ℕ). take ROW_BYTES (drop k (take j x))) (sym e)
        ∙ ap (λ (y : List ℕ). take ROW_BYTES (drop k y)) (take-add k (m - k) x)
        ∙ ap (take ROW_BYTES) (drop_at (take k x) (take (m - k) (drop k x)) k (length-take-le k x q))
        ∙ take-take ROW_BYTES (m - k) (drop k x) (omega arith)

-- sixteen bytes from the piece that holds the row are those of the joined table's row n
pub part_joined : (f s : List ℕ) (n : ℕ) → early_fault f s ≡ 0 → n < rows_both f s → row_part f s n ≡ take ROW_BYTES (drop (ROW_BYTES * n) (row_bytes (joined f s)))
part_joined f s n z l = go (dec_lt n (rows_at f)) ∙ ap (λ (b : List ℕ). take ROW_BYTES (drop (ROW_BYTES * n) b)) (sym (joined_bytes f s whole))
  where
    whole : pieces_fault f s ≡ 0
    whole = early_pieces f s 0 (sym z) refl

    long : length (row_bytes f) ≡ ROW_BYTES * rows_at f
    long = rows_length f (first_right f s whole)

    go : Dec (n < rows_at f) → row_part f s n ≡ take ROW_BYTES (drop (ROW_BYTES * n) (row_bytes f ++ s))
    go (yes h) =
        part_first f s n 0 (sym z) refl (rows_at f) refl h ∙ sym (rows_drop f n (first_right f s whole) h)
        ∙ sym (ap (take ROW_BYTES) (drop-append-le (ROW_BYTES * n) (row_bytes f) s (rw long (omega arith)))
        ∙ take-append-le ROW_BYTES (drop (ROW_BYTES * n) (row_bytes f)) s (rw (length-drop (ROW_BYTES * n) (row_bytes f), long) (omega arith)))
    go (no h) =
        let q : ROW_BYTES * n ≡ length (row_bytes f) + ROW_BYTES * (n - rows_at f) = rw long (omega arith) in
        part_second f s n 0 (sym z) refl (rows_at f) refl (rows_both f s) refl (omega arith) l
        ∙ sym (ap (λ (k : ℕ). take ROW_BYTES (drop k (row_bytes f ++ s))) q ∙ ap (take ROW_BYTES) (drop-append-add (row_bytes f) s (ROW_BYTES * (n - rows_at f))))

rows_less : (f s : List ℕ) → rows_at f ≤ rows_both f s
unfolding rows_both
rows_less f s = omega arith

-- neither holds a row past the rows of both
pub part_none : (f s : List ℕ) (n : ℕ) → rows_both f s ≤ n → row_part f s n ≡ []
part_none f s n l = go (ℕ_discrete (early_fault f s) 0)
  where
    go : Dec (early_fault f s ≡ 0) → row_part f s n ≡ []
    go (yes z) = part_past f s n (early_fault f s) refl z (rows_at f) refl (rows_both f s) refl (let k = rows_less f s in omega arith) l
    go (no d) = part_refused f s n (early_fault f s) refl d

-- ---- the place of row n

pub part_at_lem : (f s : List ℕ) (n : ℕ) → row_part f s n ≡ part_at f s (row_place f s n)
unfolding row_part row_place part_at
part_at_lem f s n = go (eqb (early_fault f s) 0) (ltb n (rows_at f)) (ltb n (rows_both f s))
  where
    x : ℕ
    x = rows_begin f + ROW_BYTES * n

    y : ℕ
    y = ROW_BYTES * (n - rows_at f)

    go : (a b c : Bool)
        → cond a (cond b (take ROW_BYTES (drop x f)) (cond c (take ROW_BYTES (drop y s)) [])) []
        ≡ part_at f s (cond a (cond b (Some (place.First x)) (cond c (Some (place.Second y)) None)) None)
    go true true c = refl
    go true false true = refl
    go true false false = refl
    go false b c = refl

pub place_nothing : (f s : List ℕ) (w : Option RowPlace) → w ≡ None → part_at f s w ≡ []
unfolding part_at
place_nothing f s w e = ap (part_at f s) e

module _ (f s : List ℕ) (n h : ℕ) (e : h ≡ early_fault f s) where
  pub place_refused : (h ≡ 0 → ⊥) → None ≡ row_place f s n
  unfolding row_place
  place_refused d = rw (← e, ne_eqb h 0 d) refl

  module _ (z : h ≡ 0) (r : ℕ) (q : r ≡ rows_at f) where
    pub place_first : (b : ℕ) → b ≡ rows_begin f → n < r → Some (place.First (b + ROW_BYTES * n)) ≡ row_place f s n
    unfolding row_place
    place_first b w l = rw (← e, z, ← q, ← w, lt-ltb n r l) refl

    module _ (b : ℕ) (w : b ≡ rows_both f s) (k : r ≤ n) where
      pub second_fits : n < b → ROW_BYTES * (n - r) < AREA
      second_fits l = let t = both_fit f s (early_pieces f s h e z) in omega arith

      pub place_second : n < b → Some (place.Second (ROW_BYTES * (n - r))) ≡ row_place f s n
      unfolding row_place
      place_second l = rw (← e, z, ← q, ← w, le-ltb n r k, lt-ltb n b l) refl

      pub place_past : b ≤ n → None ≡ row_place f s n
      unfolding row_place
      place_past l = rw (← e, z, ← q, ← w, le-ltb n r k, le-ltb n b l) refl

-- a part that isn't empty is held; an empty one is nowhere
module _ (f s : List ℕ) (n : ℕ) (x : List ℕ) (is : x ≡ row_part f s n) where
  empty_length : x ≡ [] → length x ≡ 0
  empty_length e = ap length e

  pub held_passed : (length x ≡ 0 → ⊥) → early_fault f s ≡ 0
  held_passed d = go (ℕ_discrete (early_fault f s) 0)
    where
      go : Dec (early_fault f s ≡ 0) → early_fault f s ≡ 0
      go (yes z) = z
      go (no r) = absurd (d (empty_length (is ∙ part_refused f s n (early_fault f s) refl r)))

  pub held_below : (length x ≡ 0 → ⊥) → n < rows_both f s
  held_below d = go (dec_lt n (rows_both f s))
    where
      go : Dec (n < rows_both f s) → n < rows_both f s
      go (yes l) = l
      go (no h) = absurd (d (empty_length (is ∙ part_none f s n (omega arith))))

  held_length : early_fault f s ≡ 0 → n < rows_both f s → length x ≡ ROW_BYTES
  held_length z l = go (dec_lt n (rows_at f))
    where
      long : (a : ℕ) (y : List ℕ) → a + ROW_BYTES ≤ length y → length (take ROW_BYTES (drop a y)) ≡ ROW_BYTES
      long a y h = length-take-le ROW_BYTES (drop a y) (rw (length-drop a y) (omega arith))

      go : Dec (n < rows_at f) → length x ≡ ROW_BYTES
      go (yes h) =
          ap length (is ∙ part_first f s n 0 (sym z) refl (rows_at f) refl h)
          ∙ long (rows_begin f + ROW_BYTES * n) f (first_end f s n 0 (rows_at f) (rows_begin f) (sym z) refl refl h refl)
      go (no h) =
          let k : rows_at f ≤ n = omega arith in
          ap length (is ∙ part_second f s n 0 (sym z) refl (rows_at f) refl (rows_both f s) refl k l)
          ∙ long (ROW_BYTES * (n - rows_at f)) s (second_end f s n (rows_at f) (rows_both f s) refl k refl l)

  pub place_empty : length x ≡ 0 → None ≡ row_place f s n
  place_empty e = go (ℕ_discrete (early_fault f s) 0) (dec_lt n (rows_both f s))
    where
      go : Dec (early_fault f s ≡ 0) → Dec (n < rows_both f s) → None ≡ row_place f s n
      go (yes z) (yes l) = absurd (let q = held_length z l in omega arith)
      go (yes z) (no h) = place_past f s n 0 (sym z) refl (rows_at f) refl (rows_both f s) refl (let k = rows_less f s in omega arith) (omega arith)
      go (no d) b = place_refused f s n (early_fault f s) refl d

-- ---- the rows of both, copied

-- byte k of two lists, one after the other
pub both_first : (x y : List ℕ) (k : ℕ) → k < length x → get_or (x ++ y) k 0 ≡ get_or x k 0
both_first x y k l = get_or-append x y 0 k l

pub both_second : (x y : List ℕ) (k : ℕ) → length x ≤ k → get_or (x ++ y) k 0 ≡ get_or y (k - length x) 0
both_second x y k l =
    let e : length x + (k - length x) ≡ k = omega arith in
    ap (λ (i : ℕ). get_or (x ++ y) i 0) (sym e) ∙ get_or-append-add x y (k - length x) 0

pub get_d_zeros : (n k : ℕ) → ◌≡◌ {A = ℕ} (get_or (replicate n 0) k 0) 0
get_d_zeros zero k = refl
get_d_zeros (suc n) zero = refl
get_d_zeros (suc n) (suc k) = get_d_zeros n k

-- what a copy leaves before its place, puts there, and leaves past it
module _ (d : List ℕ) (at : ℕ) (s : List ℕ) (n : ℕ) (hd : at + n ≤ length d) (hs : n ≤ length s) where
  front_long : length (take at d ++ take n s) ≡ at + n
  front_long = length_paste_head d at s n (omega arith) hs

  before_long : length (take at d) ≡ at
  before_long = length-take-le at d (omega arith)

  pub paste_before : (i : ℕ) → i < at → get_or (paste d at s n) i 0 ≡ get_or d i 0
  paste_before i l =
      both_first (take at d ++ take n s) (drop (at + n) d) i (rw front_long (omega arith))
      ∙ both_first (take at d) (take n s) i (rw before_long l) ∙ get_or-take at d i 0 l

  pub paste_within : (i : ℕ) → at ≤ i → i < at + n → get_or (paste d at s n) i 0 ≡ get_or s (i - at) 0
  paste_within i h l =
      both_first (take at d ++ take n s) (drop (at + n) d) i (rw front_long l)
      ∙ both_second (take at d) (take n s) i (rw before_long h)
      ∙ ap (λ (j : ℕ). get_or (take n s) (i - j) 0) before_long ∙ get_or-take n s (i - at) 0 (omega arith)

  pub paste_past : (i : ℕ) → at + n ≤ i → get_or (paste d at s n) i 0 ≡ get_or d i 0
  paste_past i l =
      let e : at + n + (i - (at + n)) ≡ i = omega arith in
      both_second (take at d ++ take n s) (drop (at + n) d) i (rw front_long l)
      ∙ ap (λ (j : ℕ). get_or (drop (at + n) d) (i - j) 0) front_long
      ∙ get_or-drop (at + n) d (i - (at + n)) 0 ∙ ap (λ (j : ℕ). get_or d j 0) e

-- as many places of a copy as the list has are the list
take_area : (x : List ℕ) (m : ℕ) → length x ≡ m → m ≤ AREA → take m (area_of x) ≡ x
unfolding area_of
take_area x m e h = ext_get_or 0 (take m copy) x (long ∙ sym e) at
  where
    copy : List ℕ
    copy = tabulate (λ k. get_or x k 0) AREA

    long : length (take m copy) ≡ m
    long = length-take-le m copy (rw (length_tabulate (λ k. get_or x k 0) AREA) h)

    at : (i : ℕ) → i < length (take m copy) → get_or (take m copy) i 0 ≡ get_or x i 0
    at i l = let q : i < m = subst (λ (k : ℕ). i < k) long l in
        get_or-take m copy i 0 q ∙ get_d_tabulate (λ k. get_or x k 0) AREA i 0 (omega arith)

area_length : (x : List ℕ) → length (area_of x) ≡ AREA
unfolding area_of
area_length x = length_tabulate (λ k. get_or x k 0) AREA

-- a front of the copy, as code takes it
pub front_length : (x all : List ℕ) (m : ℕ) → all ≡ area_of x → m ≤ AREA → m ≡ length (take m all)
front_length x all m e h = sym (length-take-le m all (rw (e, area_length x) h))

-- the front of the copy is the joined table's rows
pub joined_front : (f s all : List ℕ) (n : ℕ) → pieces_fault f s ≡ 0 → n ≡ rows_both f s → all ≡ area_of (row_bytes f ++ s)
    → take (n * ROW_BYTES) all ≡ row_bytes (joined f s)
joined_front f s all n z w c =
    let fit = both_fit f s z in
    rw c (take_area (row_bytes f ++ s) (n * ROW_BYTES) (bytes_length f s z ∙ turned (rows_both f s) n w) (omega arith)) ∙ sym (joined_bytes f s z)
  where
    turned : (m n : ℕ) → n ≡ m → ROW_BYTES * m ≡ n * ROW_BYTES
    turned m n w = omega arith
