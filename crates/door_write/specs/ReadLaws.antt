-- Writing what was read from a table gives the same bytes. Assumes nothing.
use Rattle.std.specs.Prelude.{◌≡◌, Bool, false, cond, eqb}
use Rattle.std.proofs.Math.Path.{refl, sym, ap, ap₂}
use Rattle.std.proofs.Common.{◌∙◌, subst, take-add, ext_get_or, get_or-take}
use Rattle.std.proofs.Math.Bool.{true, not}
use Rattle.std.proofs.Math.Logic.{⊎_elim}
use mathlib.Core.List.{List, [], ◌++◌}
use Prim.Native.Nat.{ℕ, zero, suc, ◌+◌, ◌-◌, ◌*◌, ◌/◌, ◌%◌, ◌≤◌, ◌<◌}
use native.Mathlib.Omega.{arith}
use Rattle.std.proofs.Math.Decide.{dec_lt}
use Rattle.std.proofs.Math.ListN.{length, get_or, take, drop, length-take, length-drop, take-append-drop, get_or-eq_default}
use Rattle.std.proofs.Math.Seq.{take_all, get_or-drop}
use Rattle.std.proofs.Math.Dec.{ltb, leb}
use borrow.Author.Tests.{eqb-true, leb-true, le-leb, lt-ltb, le-ltb}
use Rattle.finite.specs.Logic.{split, which, not_in}
use Rattle.finite.specs.Below.{any_below, any_not}
use Rattle.finite.specs.Lists.{tabulate, length_tabulate, get_d_tabulate}
use Rattle.model.specs.declared.Row.{Row}
use Rattle.model.specs.Limits.{AGENTS, ROWS, DEPENDENCIES}
use Rattle.model.specs.Scope.{SHADER, QUEUE, agent_kind}
use Rattle.model.specs.Header.{HEADER, PLACE_BYTES, HOSTS_PLACE_BYTES, DEPENDENCY_BYTES, ROW_BYTES, pair_at, quad_at, count_at, version_at, zero_at}
use Rattle.model.specs.Header.{agents_at, rows_at, has_hosts, shader_place_at, any_place_at, place_at, slot_at, places_of, rows_begin, rows_end, size_of, row_bytes}
use Rattle.model.specs.Table.{byte_of, pair_of, row_of, source_of, dependency_count, dependency_end, dependency_from, dependency_to}
use Rattle.model.specs.Header.{dependency_bytes}
use Rattle.model.specs.Refusal.{shape_or, version_fits, limits_fit, length_fits, kind_over, agents_known, hosts_fault, header_fault}
use Rattle.model_laws.specs.FilledLaws.{Bytes}
use Rattle.model_laws.specs.AdmissionLaws.{Sound, hosts_right, agents_fit, rows_fit, dependencies_fit_lem, length_is}
use Rattle.door_write.specs.declared.Dependencies.{Dependencies}
use Rattle.door_write.specs.Encode.{half, with_hosts, places_size, dependencies_size, table_size, header_list, number_of, place_number, place_byte, row_list}
use Rattle.door_write.specs.Encode.{nothing, entry_at, entry_byte, dependency_number, dependency_byte, places_part, rows_part, dependencies_part, encode}
use Rattle.door_write.specs.Encode.{entry_of, entries_in, entries_of, dependencies_of}
use Rattle.door_write.specs.Answer.{version_known, counts_fit, number_over, numbers_fit, dependencies_fit}
use Rattle.door_write.specs.ValueLaws.{Fits, begin_either, end_either, places_hosts, places_plain, after_plain, after_most, header_length}
use Rattle.door_write.specs.EncodeLaws.{count_at_lem}

-- ---- bytes

high_is : (a b : ℕ) → a < 256 → b < 256 → (a * 256 + b) / 256 % 256 ≡ a
high_is a b h k = omega arith

low_is : (a b : ℕ) → a < 256 → b < 256 → (a * 256 + b) % 256 ≡ b
low_is a b h k = omega arith

-- a byte of a pair that was read
half_of : (s : List ℕ) → Bytes s → (q k : ℕ) → half (pair_at s q) k ≡ get_or s (q + k % 2) 0
unfolding half pair_at
half_of s small q k = go (dec_lt (k % 2) 1)
  where
    go : Dec (k % 2 < 1)
        → cond (eqb (k % 2) 0) ((get_or s q 0 * 256 + get_or s (q + 1) 0) / 256 % 256) ((get_or s q 0 * 256 + get_or s (q + 1) 0) % 256) ≡ get_or s (q + k % 2) 0
    go (yes l) =
        let e : k % 2 ≡ 0 = omega arith in
        let z : q + 0 ≡ q = omega arith in
        rw (e, z) (high_is (get_or s q 0) (get_or s (q + 1) 0) (small q) (small (q + 1)))
    go (no l) = let e : k % 2 ≡ 1 = omega arith in rw e (low_is (get_or s q 0) (get_or s (q + 1) 0) (small q) (small (q + 1)))

part_small : (s : List ℕ) → Bytes s → (n : ℕ) → Bytes (drop n s)
part_small s small n k = subst (λ (x : ℕ). x < 256) (sym (get_or-drop n s k 0)) (small (n + k))

pub front_small : (s : List ℕ) → Bytes s → (n : ℕ) → Bytes (take n s)
front_small s small n k = go (dec_lt k n)
  where
    go : Dec (k < n) → get_or (take n s) k 0 < 256
    go (yes l) = subst (λ (x : ℕ). x < 256) (sym (get_or-take n s k 0 l)) (small k)
    go (no l) = let e = get_or-eq_default (take n s) 0 {n = k} (let m = length-take n s in omega arith) in omega arith

-- a list is its elements
pub tabulated : (f : ℕ → ℕ) (u : List ℕ) (n : ℕ) → length u ≡ n → ((k : ℕ) → k < n → f k ≡ get_or u k 0) → tabulate f n ≡ u
tabulated f u n e h =
    ext_get_or 0 (tabulate f n) u (length_tabulate f n ∙ sym e)
    (λ k l. let m : k < n = subst (λ (x : ℕ). k < x) (length_tabulate f n) l in get_d_tabulate f n k 0 m ∙ h k m)

drop_is : (s : List ℕ) → dependency_bytes s ≡ drop (rows_end s) s
unfolding dependency_bytes
drop_is s = refl

-- ---- rows, in their bytes alone

row_long : (r : Row) (n : ℕ) → length (row_list r n) ≡ ROW_BYTES
unfolding row_list
row_long r n = refl

module _ (b : List ℕ) (row_small : Bytes b) where
  pair_high : (i k : ℕ) → pair_of b i k / 256 % 256 ≡ get_or b (i * ROW_BYTES + k) 0
  unfolding pair_of pair_at
  pair_high i k = high_is _ _ (row_small (i * ROW_BYTES + k)) (row_small (i * ROW_BYTES + k + 1))

  pair_low : (i k : ℕ) → pair_of b i k % 256 ≡ get_or b (i * ROW_BYTES + (k + 1)) 0
  unfolding pair_of pair_at
  pair_low i k =
      let e : i * ROW_BYTES + k + 1 ≡ i * ROW_BYTES + (k + 1) = omega arith in
      low_is _ _ (row_small (i * ROW_BYTES + k)) (row_small (i * ROW_BYTES + k + 1)) ∙ ap (λ (j : ℕ). get_or b j 0) e

  list_same : (i k : ℕ) → k < ROW_BYTES → get_or (row_list (row_of b i) (source_of b i)) k 0 ≡ get_or b (i * ROW_BYTES + k) 0
  unfolding row_list row_of source_of byte_of
  list_same i zero h = refl
  list_same i (suc zero) h = refl
  list_same i (suc (suc zero)) h = refl
  list_same i (suc (suc (suc zero))) h = refl
  list_same i (suc (suc (suc (suc zero)))) h = refl
  list_same i (suc (suc (suc (suc (suc zero))))) h = refl
  list_same i (suc (suc (suc (suc (suc (suc zero)))))) h = refl
  list_same i (suc (suc (suc (suc (suc (suc (suc zero))))))) h = refl
  list_same i (suc (suc (suc (suc (suc (suc (suc (suc zero)))))))) h = pair_high i 8
  list_same i (suc (suc (suc (suc (suc (suc (suc (suc (suc zero))))))))) h = pair_low i 8
  list_same i (suc (suc (suc (suc (suc (suc (suc (suc (suc (suc zero)))))))))) h = pair_high i 10
  list_same i (suc (suc (suc (suc (suc (suc (suc (suc (suc (suc (suc zero))))))))))) h = pair_low i 10
  list_same i (suc (suc (suc (suc (suc (suc (suc (suc (suc (suc (suc (suc zero)))))))))))) h = pair_high i 12
  list_same i (suc (suc (suc (suc (suc (suc (suc (suc (suc (suc (suc (suc (suc zero))))))))))))) h = pair_low i 12
  list_same i (suc (suc (suc (suc (suc (suc (suc (suc (suc (suc (suc (suc (suc (suc zero)))))))))))))) h = pair_high i 14
  list_same i (suc (suc (suc (suc (suc (suc (suc (suc (suc (suc (suc (suc (suc (suc (suc zero))))))))))))))) h = pair_low i 14
  list_same i (suc (suc (suc (suc (suc (suc (suc (suc (suc (suc (suc (suc (suc (suc (suc (suc k)))))))))))))))) h = absurd (omega arith)

  entry_is : (i : ℕ) → i < ROWS → entry_at (entries_in b) i ≡ entry_of b i
  unfolding entry_at entries_in
  entry_is i h = get_d_tabulate (entry_of b) ROWS i nothing h

  entry_same : (n : ℕ) → n ≤ ROWS → (j : ℕ) → j < ROW_BYTES * n → entry_byte (entries_in b) j ≡ get_or b j 0
  unfolding entry_byte entry_of
  entry_same n few j h =
      let e : j / ROW_BYTES * ROW_BYTES + j % ROW_BYTES ≡ j = omega arith in
      rw (entry_is (j / ROW_BYTES) (omega arith)) (list_same (j / ROW_BYTES) (j % ROW_BYTES) (omega arith) ∙ ap (λ (i : ℕ). get_or b i 0) e)

  -- rows that were read from bytes are written as these
  pub rows_same : (n : ℕ) → n ≤ ROWS → ROW_BYTES * n ≤ length b → rows_part n (entries_in b) ≡ take (ROW_BYTES * n) b
  unfolding rows_part
  rows_same n few h =
      let m = length-take (ROW_BYTES * n) b in
      tabulated (entry_byte (entries_in b)) (take (ROW_BYTES * n) b) (ROW_BYTES * n) (omega arith)
      (λ j l. entry_same n few j l ∙ sym (get_or-take (ROW_BYTES * n) b j 0 l))

-- ---- the header's tests, passed

header_passed : (a b c d : Bool) (n : ℕ) → ◌≡◌ {A = ℕ} (cond a (cond b (cond c (cond d n 4) 3) 2) 1) 0 → (a ≡ true) × (b ≡ true) × (c ≡ true) × (d ≡ true)
header_passed true true true true n e = (refl, refl, refl, refl)
header_passed true true true false n e = absurd (omega arith)
header_passed true true false d n e = absurd (omega arith)
header_passed true false c d n e = absurd (omega arith)
header_passed false b c d n e = absurd (omega arith)

module _ {blanks : Bool} {s : List ℕ} (sound : Sound blanks s) where
  tests : (leb HEADER (length s) ≡ true) × (version_fits s ≡ true) × (limits_fit s ≡ true) × (length_fits s ≡ true)
  unfolding header_fault shape_or
  tests = header_passed (leb HEADER (length s)) (version_fits s) (limits_fit s) (length_fits s) (hosts_fault s) sound.header

  is_long : HEADER ≤ length s
  is_long = leb-true HEADER (length s) tests.0

  is_zero : zero_at s ≡ 0
  unfolding version_fits
  is_zero = eqb-true (zero_at s) 0 (split tests.1).1

  is_count : count_at s + 4 ≡ size_of s
  unfolding length_fits
  is_count = eqb-true (count_at s + 4) (size_of s) (split tests.3).0

  hosts_same : with_hosts (version_at s) ≡ has_hosts s
  unfolding with_hosts has_hosts
  hosts_same = refl

  begin_same : rows_begin s ≡ HEADER + places_size (version_at s) (agents_at s)
  unfolding rows_begin places_size
  begin_same = rw hosts_same (begin_either (has_hosts s) (agents_at s))

  end_same : rows_end s ≡ HEADER + places_size (version_at s) (agents_at s) + ROW_BYTES * rows_at s
  unfolding rows_end
  end_same = rw begin_same refl

  size_same : size_of s ≡ table_size (version_at s) (agents_at s) (rows_at s) (dependency_count (dependency_bytes s))
  unfolding size_of table_size dependencies_size
  size_same = rw (hosts_same, count_at_lem s, end_same)
      (end_either (has_hosts s) (HEADER + places_size (version_at s) (agents_at s) + ROW_BYTES * rows_at s) (dependency_count (dependency_bytes s)))

  pub length_same : length s ≡ table_size (version_at s) (agents_at s) (rows_at s) (dependency_count (dependency_bytes s))
  length_same = length_is sound ∙ size_same

  -- the bytes after the rows
  rest : length (dependency_bytes s) ≡ dependencies_size (version_at s) (dependency_count (dependency_bytes s))
  unfolding dependency_bytes table_size
  rest = let n = length_same in let e = end_same in length-drop (rows_end s) s ∙ omega arith

  -- without host agents there are none
  no_rest : has_hosts s ≡ false → dependency_count (dependency_bytes s) ≡ 0
  unfolding dependency_count dependency_bytes pair_at
  no_rest h =
      let n : length (drop (rows_end s) s) ≡ 0 = rest ∙ after_plain (version_at s) (dependency_count (dependency_bytes s)) (hosts_same ∙ h) in
      ap₂ (λ (x y : ℕ). x * 256 + y) (get_or-eq_default (drop (rows_end s) s) 0 {n = 0} (omega arith))
      (get_or-eq_default (drop (rows_end s) s) 0 {n = 1} (omega arith))

  -- ---- refusals 2, 3, 16 and 17 don't hold of what was read

  pub slot_is : (x : ℕ) → x < agents_at s → get_or (places_of s) x [] ≡ place_at s x
  unfolding places_of slot_at
  slot_is x h =
      let few = agents_fit sound in
      get_d_tabulate (slot_at s) AGENTS x [] (omega arith) ∙ rw (lt-ltb x (agents_at s) h) refl

  fourth_none : has_hosts s ≡ false → (x : ℕ) → x < agents_at s → agent_kind (places_of s) x ≡ SHADER
  unfolding agent_kind place_at shader_place_at
  fourth_none h x b = ap (λ (y : List ℕ). get_or y 3 0) (slot_is x b) ∙ rw h refl

  read_numbers : numbers_fit (version_at s) (agents_at s) (places_of s) ≡ true
  unfolding numbers_fit number_over agents_known kind_over
  read_numbers = ⊎_elim on off (which (has_hosts s))
    where
      on : has_hosts s ≡ true → not (any_below (agents_at s) (λ a. ltb (cond (with_hosts (version_at s)) QUEUE SHADER) (agent_kind (places_of s) a))) ≡ true
      on h = let e : with_hosts (version_at s) ≡ true = hosts_same ∙ h in rw e (hosts_right sound).agents

      off : has_hosts s ≡ false → not (any_below (agents_at s) (λ a. ltb (cond (with_hosts (version_at s)) QUEUE SHADER) (agent_kind (places_of s) a))) ≡ true
      off h =
          let e : with_hosts (version_at s) ≡ false = hosts_same ∙ h in
          rw e (not_in (any_not (λ a. ltb SHADER (agent_kind (places_of s) a)) (agents_at s)
          (λ a b. le-ltb SHADER (agent_kind (places_of s) a) (let z = fourth_none h a b in omega arith))))

  read_few : dependencies_fit (version_at s) (dependency_count (dependency_bytes s)) ≡ true
  unfolding dependencies_fit
  read_few = ⊎_elim on off (which (has_hosts s))
    where
      on : has_hosts s ≡ true → leb (dependency_count (dependency_bytes s)) (cond (with_hosts (version_at s)) DEPENDENCIES 0) ≡ true
      on h = let e : with_hosts (version_at s) ≡ true = hosts_same ∙ h in
          rw e (le-leb (dependency_count (dependency_bytes s)) DEPENDENCIES (dependencies_fit_lem sound))

      off : has_hosts s ≡ false → leb (dependency_count (dependency_bytes s)) (cond (with_hosts (version_at s)) DEPENDENCIES 0) ≡ true
      off h =
          let e : with_hosts (version_at s) ≡ false = hosts_same ∙ h in
          rw e (le-leb (dependency_count (dependency_bytes s)) 0 (let z = no_rest h in omega arith))

  pub read_fits : Fits (version_at s) (agents_at s) (places_of s) (rows_at s) (dependency_count (dependency_bytes s))
  unfolding version_known counts_fit version_fits limits_fit
  read_fits = record { known = (split tests.1).0; counts = tests.2; numbers = read_numbers; dependencies = read_few }

  -- ---- the same bytes

  module _ (small : Bytes s) where
    abbrev d : Dependencies
    d = dependencies_of s

    count_is : table_size (version_at s) (agents_at s) (rows_at s)
        (dependency_count (dependency_bytes s)) - 4 ≡ (get_or s 0 0 * 256 + get_or s 1 0) * 65536 + (get_or s 2 0 * 256 + get_or s 3 0)
    unfolding count_at quad_at pair_at
    count_is = let e = is_count in let n = size_same in omega arith

    header_same : (k : ℕ) → k < HEADER
        → get_or (header_list (version_at s) (agents_at s) (rows_at s)
        (table_size (version_at s) (agents_at s) (rows_at s) (dependency_count (dependency_bytes s)))) k 0 ≡ get_or s k 0
    unfolding header_list version_at zero_at agents_at rows_at
    header_same zero h = rw count_is (let a = small 0 in let b = small 1 in let c = small 2 in let e = small 3 in omega arith)
    header_same (suc zero) h = rw count_is (let a = small 0 in let b = small 1 in let c = small 2 in let e = small 3 in omega arith)
    header_same (suc (suc zero)) h = rw count_is (let a = small 0 in let b = small 1 in let c = small 2 in let e = small 3 in omega arith)
    header_same (suc (suc (suc zero))) h = rw count_is (let a = small 0 in let b = small 1 in let c = small 2 in let e = small 3 in omega arith)
    header_same (suc (suc (suc (suc zero)))) h = refl
    header_same (suc (suc (suc (suc (suc zero))))) h = refl
    header_same (suc (suc (suc (suc (suc (suc zero)))))) h = refl
    header_same (suc (suc (suc (suc (suc (suc (suc zero))))))) h = sym is_zero
    header_same (suc (suc (suc (suc (suc (suc (suc (suc k)))))))) h = absurd (omega arith)

    header_part : header_list (version_at s) (agents_at s) (rows_at s)
        (table_size (version_at s) (agents_at s) (rows_at s) (dependency_count (dependency_bytes s))) ≡ take HEADER s
    header_part =
        let n = header_length (version_at s) (agents_at s) (rows_at s) (table_size (version_at s) (agents_at s) (rows_at s) (dependency_count (dependency_bytes s))) in
        let m = length-take HEADER s in
        let long = is_long in
        ext_get_or 0 (header_list (version_at s) (agents_at s) (rows_at s)
        (table_size (version_at s) (agents_at s) (rows_at s) (dependency_count (dependency_bytes s)))) (take HEADER s) (omega arith)
        (λ k l. let b : k < HEADER = subst (λ (x : ℕ). k < x) n l in header_same k b ∙ sym (get_or-take HEADER s k 0 b))

    -- number m of agent x
    four_is : (x m : ℕ) → m < 4 → get_or (any_place_at s x) m 0 ≡ pair_at s (HEADER + x * HOSTS_PLACE_BYTES + 2 * m)
    unfolding any_place_at
    four_is x zero h = refl
    four_is x (suc zero) h = refl
    four_is x (suc (suc zero)) h = refl
    four_is x (suc (suc (suc zero))) h = refl
    four_is x (suc (suc (suc (suc m)))) h = absurd (omega arith)

    three_is : (x m : ℕ) → m < 3 → get_or (shader_place_at s x) m 0 ≡ pair_at s (HEADER + x * PLACE_BYTES + 2 * m)
    unfolding shader_place_at
    three_is x zero h = refl
    three_is x (suc zero) h = refl
    three_is x (suc (suc zero)) h = refl
    three_is x (suc (suc (suc m))) h = absurd (omega arith)

    place_hosts : has_hosts s ≡ true → (k : ℕ) → k < HOSTS_PLACE_BYTES * agents_at s → place_byte true (places_of s) k ≡ get_or s (HEADER + k) 0
    unfolding place_byte place_number number_of place_at
    place_hosts h k l =
        let x : k / HOSTS_PLACE_BYTES < agents_at s = omega arith in
        let e : HEADER + k / HOSTS_PLACE_BYTES * HOSTS_PLACE_BYTES + 2 * (k % HOSTS_PLACE_BYTES / 2) + k % 2 ≡ HEADER + k = omega arith in
        rw (slot_is (k / HOSTS_PLACE_BYTES) x, h, four_is (k / HOSTS_PLACE_BYTES) (k % HOSTS_PLACE_BYTES / 2) (omega arith))
        (half_of s small (HEADER + k / HOSTS_PLACE_BYTES * HOSTS_PLACE_BYTES + 2 * (k % HOSTS_PLACE_BYTES / 2)) k ∙ ap (λ (i : ℕ). get_or s i 0) e)

    place_plain : has_hosts s ≡ false → (k : ℕ) → k < PLACE_BYTES * agents_at s → place_byte false (places_of s) k ≡ get_or s (HEADER + k) 0
    unfolding place_byte place_number number_of place_at
    place_plain h k l =
        let x : k / PLACE_BYTES < agents_at s = omega arith in
        let e : HEADER + k / PLACE_BYTES * PLACE_BYTES + 2 * (k % PLACE_BYTES / 2) + k % 2 ≡ HEADER + k = omega arith in
        rw (slot_is (k / PLACE_BYTES) x, h, three_is (k / PLACE_BYTES) (k % PLACE_BYTES / 2) (omega arith))
        (half_of s small (HEADER + k / PLACE_BYTES * PLACE_BYTES + 2 * (k % PLACE_BYTES / 2)) k ∙ ap (λ (i : ℕ). get_or s i 0) e)

    place_same : (k : ℕ) → k < places_size (version_at s) (agents_at s) → place_byte (with_hosts (version_at s)) (places_of s) k ≡ get_or s (HEADER + k) 0
    place_same k l = ⊎_elim on off (which (has_hosts s))
      where
        on : has_hosts s ≡ true → place_byte (with_hosts (version_at s)) (places_of s) k ≡ get_or s (HEADER + k) 0
        on h =
            let e : with_hosts (version_at s) ≡ true = hosts_same ∙ h in
            rw e (place_hosts h k (let n = places_hosts (version_at s) (agents_at s) e in omega arith))

        off : has_hosts s ≡ false → place_byte (with_hosts (version_at s)) (places_of s) k ≡ get_or s (HEADER + k) 0
        off h =
            let e : with_hosts (version_at s) ≡ false = hosts_same ∙ h in
            rw e (place_plain h k (let n = places_plain (version_at s) (agents_at s) e in omega arith))

    places_part_lem : places_part (version_at s) (agents_at s) (places_of s) ≡ take (places_size (version_at s) (agents_at s)) (drop HEADER s)
    unfolding places_part table_size
    places_part_lem =
        let n = length_same in
        let a = length-take (places_size (version_at s) (agents_at s)) (drop HEADER s) in
        let b = length-drop HEADER s in
        tabulated (place_byte (with_hosts (version_at s)) (places_of s)) (take (places_size (version_at s) (agents_at s)) (drop HEADER s))
        (places_size (version_at s) (agents_at s)) (omega arith)
        (λ k l. place_same k l ∙ sym (get_or-take (places_size (version_at s) (agents_at s)) (drop HEADER s) k 0 l ∙ get_or-drop HEADER s k 0))

    -- the rows
    pub row_small : Bytes (row_bytes s)
    unfolding row_bytes
    row_small = front_small (drop (rows_begin s) s) (part_small s small (rows_begin s)) (ROW_BYTES * rows_at s)

    rows_part_lem : rows_part (rows_at s) (entries_of s) ≡ take (ROW_BYTES * rows_at s) (drop (HEADER + places_size (version_at s) (agents_at s)) s)
    unfolding table_size row_bytes entries_of
    rows_part_lem =
        let n = length_same in
        let e = begin_same in
        let a = length-take (ROW_BYTES * rows_at s) (drop (rows_begin s) s) in
        let b = length-drop (rows_begin s) s in
        rows_same (row_bytes s) row_small (rows_at s) (rows_fit sound) (omega arith) ∙ take_all (ROW_BYTES * rows_at s) (row_bytes s) (omega arith)
        ∙ ap (λ (x : ℕ). take (ROW_BYTES * rows_at s) (drop x s)) begin_same

    pub rows_long : length (row_bytes s) ≡ ROW_BYTES * rows_at s
    unfolding table_size row_bytes
    rows_long =
        let n = length_same in
        let e = begin_same in
        let a = length-take (ROW_BYTES * rows_at s) (drop (rows_begin s) s) in
        let b = length-drop (rows_begin s) s in
        omega arith

    -- row i, written, is its own sixteen bytes
    pub row_again : (i : ℕ) → i < rows_at s → row_list (row_of (row_bytes s) i) (source_of (row_bytes s) i) ≡ take ROW_BYTES (drop (ROW_BYTES * i) (row_bytes s))
    row_again i l =
        let m = length-take ROW_BYTES (drop (ROW_BYTES * i) (row_bytes s)) in
        let n = length-drop (ROW_BYTES * i) (row_bytes s) in
        let r = rows_long in
        let e : i * ROW_BYTES ≡ ROW_BYTES * i = omega arith in
        let g = row_long (row_of (row_bytes s) i) (source_of (row_bytes s) i) in
        ext_get_or 0 (row_list (row_of (row_bytes s) i) (source_of (row_bytes s) i)) (take ROW_BYTES (drop (ROW_BYTES * i) (row_bytes s))) (omega arith)
        (λ k h. list_same (row_bytes s) row_small i k (omega arith) ∙ ap (λ (j : ℕ). get_or (row_bytes s) (j + k) 0) e
        ∙ sym (get_or-take ROW_BYTES (drop (ROW_BYTES * i) (row_bytes s)) k 0 (omega arith) ∙ get_or-drop (ROW_BYTES * i) (row_bytes s) k 0))

    -- the dependencies
    after_small : Bytes (dependency_bytes s)
    unfolding dependency_bytes
    after_small = part_small s small (rows_end s)

    from_same : (k : ℕ) → 2 ≤ k → (k - 2) % DEPENDENCY_BYTES < 2
        → half (dependency_from (dependency_bytes s) ((k - 2) / DEPENDENCY_BYTES)) k ≡ get_or (dependency_bytes s) k 0
    unfolding dependency_from dependency_end
    from_same k a c =
        let e : 2 + (k - 2) / DEPENDENCY_BYTES * DEPENDENCY_BYTES + k % 2 ≡ k = omega arith in
        half_of (dependency_bytes s) after_small (2 + (k - 2) / DEPENDENCY_BYTES * DEPENDENCY_BYTES) k ∙ ap (λ (x : ℕ). get_or (dependency_bytes s) x 0) e

    to_same : (k : ℕ) → 2 ≤ k → 2 ≤ (k - 2) % DEPENDENCY_BYTES
        → half (dependency_to (dependency_bytes s) ((k - 2) / DEPENDENCY_BYTES)) k ≡ get_or (dependency_bytes s) k 0
    unfolding dependency_to dependency_end
    to_same k a c =
        let e : 4 + (k - 2) / DEPENDENCY_BYTES * DEPENDENCY_BYTES + k % 2 ≡ k = omega arith in
        half_of (dependency_bytes s) after_small (4 + (k - 2) / DEPENDENCY_BYTES * DEPENDENCY_BYTES) k ∙ ap (λ (x : ℕ). get_or (dependency_bytes s) x 0) e

    number_at : (k : ℕ) → k < 2 + DEPENDENCY_BYTES * DEPENDENCIES → half (dependency_number (dependencies_of s) k) k ≡ get_or (dependency_bytes s) k 0
    unfolding dependency_number dependencies_of dependency_count
    number_at k l = go (dec_lt k 2)
      where
        late : 2 ≤ k → Dec ((k - 2) % DEPENDENCY_BYTES < 2)
            → half (cond (ltb ((k - 2) % DEPENDENCY_BYTES) 2)
            (get_or (tabulate (dependency_from (dependency_bytes s)) DEPENDENCIES) ((k - 2) / DEPENDENCY_BYTES) 0)
            (get_or (tabulate (dependency_to (dependency_bytes s)) DEPENDENCIES) ((k - 2) / DEPENDENCY_BYTES) 0)) k ≡ get_or (dependency_bytes s) k 0
        late a (yes c) = rw (
          lt-ltb ((k - 2) % DEPENDENCY_BYTES) 2 c,
          get_d_tabulate (dependency_from (dependency_bytes s)) DEPENDENCIES ((k - 2) / DEPENDENCY_BYTES) 0 (omega arith),
        ) (from_same k a c)
        late a (no c) = rw (
          le-ltb ((k - 2) % DEPENDENCY_BYTES) 2 (omega arith),
          get_d_tabulate (dependency_to (dependency_bytes s)) DEPENDENCIES ((k - 2) / DEPENDENCY_BYTES) 0 (omega arith),
        ) (to_same k a (omega arith))

        go : Dec (k < 2)
            → half (cond (ltb k 2) (pair_at (dependency_bytes s) 0)
            (cond (ltb ((k - 2) % DEPENDENCY_BYTES) 2)
            (get_or (tabulate (dependency_from (dependency_bytes s)) DEPENDENCIES) ((k - 2) / DEPENDENCY_BYTES) 0)
            (get_or (tabulate (dependency_to (dependency_bytes s)) DEPENDENCIES) ((k - 2) / DEPENDENCY_BYTES) 0))) k ≡ get_or (dependency_bytes s) k 0
        go (yes a) = let e : 0 + k % 2 ≡ k = omega arith in
            rw (lt-ltb k 2 a) (half_of (dependency_bytes s) after_small 0 k ∙ ap (λ (x : ℕ). get_or (dependency_bytes s) x 0) e)
        go (no a) = rw (le-ltb k 2 (omega arith)) (late (omega arith) (dec_lt ((k - 2) % DEPENDENCY_BYTES) 2))

    after_part : dependencies_part (version_at s) (dependencies_of s) ≡ drop (HEADER + places_size (version_at s) (agents_at s) + ROW_BYTES * rows_at s) s
    unfolding dependencies_part dependency_byte dependencies_of
    after_part =
        let few = dependencies_fit_lem sound in
        let most = after_most (version_at s) (dependency_count (dependency_bytes s)) few in
        tabulated (dependency_byte (dependencies_of s)) (dependency_bytes s)
        (dependencies_size (version_at s) (dependency_count (dependency_bytes s))) rest (λ k l. number_at k (omega arith))
        ∙ after_is
      where
        after_is : dependency_bytes s ≡ drop (HEADER + places_size (version_at s) (agents_at s) + ROW_BYTES * rows_at s) s
        after_is = drop_is s ∙ ap (λ (x : ℕ). drop x s) end_same

    -- writing what was read
    pub written_again : encode (version_at s) (agents_at s) (places_of s) (rows_at s) (entries_of s) (dependencies_of s) ≡ s
    unfolding encode dependencies_of
    written_again =
        ap₂ (λ (x y : List ℕ). x ++ y)
        (ap₂ (λ (x y : List ℕ). x ++ y)
        (ap₂ (λ (x y : List ℕ). x ++ y) header_part places_part_lem ∙ sym (take-add HEADER (places_size (version_at s) (agents_at s)) s)) rows_part_lem
        ∙ sym (take-add (HEADER + places_size (version_at s) (agents_at s)) (ROW_BYTES * rows_at s) s))
        after_part
        ∙ take-append-drop (HEADER + places_size (version_at s) (agents_at s) + ROW_BYTES * rows_at s) s
