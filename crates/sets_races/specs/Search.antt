-- The search for the first race: the partners of a row, then the rows. Assumes nothing.
use Rattle.std.specs.Prelude.{◌≡◌, Bool, true, cond, ℕ, ◌+◌, ◌≤◌, ◌<◌}
use Rattle.std.proofs.Math.Path.{refl, ap}
use Rattle.std.proofs.Common.{sym, ◌∙◌, ⊎_elim}
use Rattle.std.proofs.Math.Bool.{false, not}
use native.Mathlib.Omega.{arith}
use Rattle.std.proofs.Math.Dec.{ltb}
use borrow.Author.Tests.{lt-ltb, le-ltb, ltb-true}
use Rattle.finite.specs.Logic.{◌and◌, split, and_true, and_false_right, not_out, not_so, not_both, which}
use Rattle.finite.specs.Below.{least, least_is, least_off, least_unique}
use Rattle.finite.specs.Count.{one, one_off, count_below, count_pairs, count_off}
use Rattle.model.specs.Limits.{ROWS, LONGEST}
use Rattle.model.specs.Row.{access}
use Rattle.model.specs.Table.{Table}
use Rattle.model.specs.Scope.{mutually}
use Rattle.model.specs.Race.{clash, conflict, unordered_nth, race_nth, races, races_above, race_partner, has_race, race_row, race_byte}
use Rattle.model.specs.Report.{conflict_mutual, conflict_ordered, conflicting, mutuals, ordered}
use Rattle.bits.specs.Bit.{bit_of}
use Rattle.std.proofs.Math.Decide.{dec_lt}
use Rattle.model_laws.specs.ReportLaws.{one_way, adds_up}
use Rattle.std.specs.declared.option.Option.{Option}
use Rattle.std.specs.declared.option.Option.TheVariants.{None, Some}
use Rattle.model.specs.declared.Race.{Race}
use Rattle.find_race.specs.First.{found_at, race_of, found_race, race_none}
use Rattle.sets_of_rows.specs.declared.Set.{Set}
use Rattle.sets_of_rows.specs.Member.{in_set}
use Rattle.sets_of_rows.specs.Rows.{Rows, rows_cong, rows_and}
use Rattle.sets_bytes.specs.Masks.{Mask}
use Rattle.sets_races.specs.declared.Counts.{Counts}
use Rattle.sets_races.specs.Counted.{Counted}
use Rattle.sets_races.specs.Sums.{above, row_count, one_of, sum_below, sum_pairs, set_count}
use Rattle.sets_races.specs.Pair.{open_after, mask_empty, mask_first}

-- ---- definitions

-- y is one of n rows that x races with, x the lower
unfoldable pub races_in : Table → ℕ → ℕ → ℕ → Bool
races_in t n x y = ltb y n and races_above t x y

-- x is one of n rows, and races with a higher one
unfoldable pub has_in : Table → ℕ → ℕ → Bool
has_in t n x = ltb x n and has_race t x

-- the first race of which x is the lower row
unfoldable pub race_from : Table → ℕ → Option Race
race_from t x = cond (has_race t x) (found_at x (race_partner t x) (race_byte t x (race_partner t x))) None

unfoldable is_at : Option Race → Bool
is_at (Some r) = true
is_at None = false

-- ---- laws: the lowest byte of a pair, looked for from k on

module _ {p : ℕ → Bool} {m k : ℕ} (h : Mask p m) (e : least k (bit_of m) ≡ k) where
  pub byte_low : 0 < m → k < LONGEST
  byte_low l = go (dec_lt k LONGEST)
    where
      low : least LONGEST p < LONGEST
      low = let f = mask_first h l in let a = f.0 in let b = f.1 in omega arith

      set : bit_of m (least LONGEST p) ≡ true
      set = h.is (least LONGEST p) low ∙ (least_is p LONGEST).hit low

      go : Dec (k < LONGEST) → k < LONGEST
      go (yes o) = o
      go (no o) = not_both set ((least_is (bit_of m) k).miss (least LONGEST p) (omega (arith, low, e)))

  pub byte_found : bit_of m k ≡ true → k < LONGEST → least LONGEST p ≡ k
  byte_found on l =
      least_unique p LONGEST k l (sym (h.is k l) ∙ on) (λ j o. sym (h.is j (omega arith)) ∙ (least_is (bit_of m) k).miss j (omega (arith, e)))

-- ---- laws: a pair

module _ (t : Table) (n x : ℕ) where
  -- a row that isn't open doesn't race
  pub races_out : {others : Set} → Rows n (open_after t x) others → (k : ℕ) → in_set others k ≡ false → races_in t n x k ≡ false
  unfolding races_in races_above races open_after above
  races_out h k gone =
      not_so _ (λ e.
      let u = split e in
      let v = split u.1 in
      let z = split (split v.1).0 in
      not_both (h.is k ∙ and_true u.0 (and_true (and_true v.0 z.0) z.1)) gone)

  pub race_on : (y : ℕ) {m : ℕ} → y < n → open_after t x y ≡ true → Mask (unordered_nth t x y) m → 0 < m → races_in t n x y ≡ true
  unfolding races_in races_above races open_after above race_nth
  race_on y l o h p =
      let u = split o in
      let v = split u.0 in
      let f = mask_first h p in
      let a = f.0 in
      let b = f.1 in
      and_true (lt-ltb y n l) (and_true v.0 (and_true (and_true v.1 u.1) (lt-ltb (least LONGEST (unordered_nth t x y)) LONGEST (omega arith))))

  pub race_off : (y : ℕ) {m : ℕ} → Mask (unordered_nth t x y) m → m ≡ 0 → races_in t n x y ≡ false
  unfolding races_in races_above races race_nth
  race_off y h e =
      let a = mask_empty h e in
      and_false_right _ _ (and_false_right _ _ (and_false_right _ _ (le-ltb (least LONGEST (unordered_nth t x y)) LONGEST (omega arith))))

  -- ---- laws: the partners of x

  module _ (rows_are : t.rows ≡ n) where
    pub partner_found : (y : ℕ) {a k : ℕ} → y < n → y ≡ least ROWS (races_in t n x) → n ≤ ROWS → races_in t n x y ≡ true → least LONGEST (unordered_nth t x y) ≡ k
        → a ≡ (t.row x).start → ◌≡◌ {A = Option Race} (found_at x y (a + k)) (race_from t x)
    unfolding race_from has_race race_partner race_byte race_nth races_in
    partner_found y {a} {k} l e few on h s =
        let q : least t.rows (races_above t x) ≡ y =
        least_unique (races_above t x) t.rows y (omega arith) (split on).1
        (λ k o. not_so _ (λ u. not_both (and_true (lt-ltb k n (omega arith)) u)
        ((least_is (λ (z : ℕ). ltb z n and races_above t x z) ROWS).miss k (omega arith))))
        in
        rw (q, lt-ltb y t.rows (omega arith), s, h) refl

    pub partner_none : n ≤ ROWS → ROWS ≡ least ROWS (races_in t n x) → ◌≡◌ {A = Option Race} None (race_from t x)
    unfolding race_from has_race race_partner races_in
    partner_none few e =
        let q : least t.rows (races_above t x) ≡ t.rows =
        least_off (races_above t x) t.rows (λ k o. not_so _ (λ u. not_both (and_true (lt-ltb k n (omega arith)) u)
        ((least_is (λ (z : ℕ). ltb z n and races_above t x z) ROWS).miss k (omega arith))))
        in
        rw (q, le-ltb t.rows t.rows (omega arith)) refl

-- ---- laws: the rows

module _ (t : Table) (n : ℕ) where
  row_access : (x : ℕ) → has_race t x ≡ true → access (t.row x) ≡ true
  unfolding has_race race_partner races_above races conflict clash
  row_access x e =
      let h = (least_is (races_above t x) t.rows).hit (ltb-true _ _ e) in
      (split (split (split (split (split (split (split h).1).0).0).1).0).0).0

  pub has_out : {x : Set} → Rows n (λ k. access (t.row k)) x → (k : ℕ) → in_set x k ≡ false → has_in t n k ≡ false
  unfolding has_in
  has_out h k gone = not_so _ (λ e. let u = split e in not_both (h.is k ∙ and_true u.0 (row_access k u.1)) gone)

  pub from_none : (x : ℕ) {f : Option Race} → f ≡ race_from t x → f ≡ None → has_in t n x ≡ false
  unfolding has_in race_from is_at
  from_none x e z = and_false_right _ _ (not_so _ (λ h. not_both (ap (λ (b : Bool). is_at (cond b (found_at x (race_partner t x) (race_byte t x (race_partner t x))) None)) h) (ap is_at (sym e ∙ z))))

  pub from_some : (x : ℕ) {f : Option Race} {a b c : ℕ} → x < n → f ≡ race_from t x → f ≡ found_at a b c → has_in t n x ≡ true
  unfolding has_in race_from is_at
  from_some x l e z =
      and_true (lt-ltb x n l) (⊎_elim (λ h. h) (λ h. not_both (ap is_at (sym e ∙ z)) (ap (λ (b : Bool). is_at (cond b (found_at x (race_partner t x) (race_byte t x (race_partner t x))) None)) h)) (which (has_race t x)))

  module _ (rows_are : t.rows ≡ n) (few : n ≤ ROWS) where
    pub row_found : (x : ℕ) {f : Option Race} → x < n → x ≡ least ROWS (has_in t n) → has_in t n x ≡ true → f ≡ race_from t x → f ≡ found_race t
    unfolding race_from found_race race_of race_row has_in
    row_found x l e on is =
        let q : least t.rows (has_race t) ≡ x =
        least_unique (has_race t) t.rows x (omega arith) (split on).1
        (λ k o. not_so _ (λ u. not_both (and_true (lt-ltb k n (omega arith)) u) ((least_is (λ (z : ℕ). ltb z n and has_race t z) ROWS).miss k (omega arith))))
        in
        is ∙ rw (q, (split on).1, lt-ltb x t.rows (omega arith)) refl

    pub row_none : ROWS ≡ least ROWS (has_in t n) → ◌≡◌ {A = Option Race} None (found_race t)
    unfolding has_in
    row_none e =
        race_none t t.rows refl
        (least_off (has_race t) t.rows (λ k o. not_so _ (λ u. not_both (and_true (lt-ltb k n (omega arith)) u)
        ((least_is (λ (z : ℕ). ltb z n and has_race t z) ROWS).miss k (omega arith)))))

-- ---- laws: counts

on : (b : Bool) → (true and (true and b)) ≡ b
unfolding ◌and◌
on b = refl

assoc : (a b c : Bool) → (a and b and c) ≡ (a and (b and c))
unfolding ◌and◌
assoc true b c = refl
assoc false b c = refl

one_true : {b : Bool} → b ≡ true → one b ≡ 1
unfolding one
one_true e = rw e refl

pos : (m : ℕ) → (m ≡ 0 → ⊥) → 0 < m
pos m e = omega arith

module _ (t : Table) (n : ℕ) where
  -- of an open pair one is left: it has order at every byte, or it races
  either : (x y : ℕ) → open_after t x y ≡ true → one (conflict_ordered t x y) + one (races t x y) ≡ 1
  unfolding open_after above conflict_mutual
  either x y o =
      let u = split o in
      let c = (split u.0).1 in
      let m : one (conflict t x y and mutually t x y) ≡ 0 = one_off (and_false_right _ _ (not_out _ u.1)) in
      let a : one (conflict t x y) ≡ 1 = one_true c in
      let w : one (conflict t x y and mutually t x y) + one (conflict_ordered t x y) + one (races t x y) ≡ one (conflict t x y) = one_way t x y in
      omega arith

  one_is : (x y : ℕ) → y < n → open_after t x y ≡ true → one_of n (above (conflict_ordered t) x) y ≡ one (conflict_ordered t x y)
  unfolding one_of above open_after
  one_is x y l o = ap one (rw (lt-ltb y n l, (split (split o).0).0) (on _))

  pub ordered_one : (x y : ℕ) {m : ℕ} → y < n → open_after t x y ≡ true → Mask (unordered_nth t x y) m → m ≡ 0 → one_of n (above (conflict_ordered t) x) y ≡ 1
  unfolding races race_nth
  ordered_one x y l o h e =
      let a = mask_empty h e in
      let b : (conflict t x y and not (mutually t x y) and ltb (least LONGEST (unordered_nth t x y)) LONGEST) ≡ false =
      and_false_right _ _ (le-ltb (least LONGEST (unordered_nth t x y)) LONGEST (omega arith)) in
      let c = either x y o in
      let d = one_is x y l o in
      let z : one (conflict t x y and not (mutually t x y) and ltb (least LONGEST (unordered_nth t x y)) LONGEST) ≡ 0 = one_off b in
      omega arith

  pub ordered_none : (x y : ℕ) {m : ℕ} → y < n → open_after t x y ≡ true → Mask (unordered_nth t x y) m → 0 < m → one_of n (above (conflict_ordered t) x) y ≡ 0
  unfolding races race_nth open_after above
  ordered_none x y l o h p =
      let f = mask_first h p in
      let g = f.0 in
      let i = f.1 in
      let u = split o in
      let c = either x y o in
      let d = one_is x y l o in
      let z : one (conflict t x y and not (mutually t x y) and ltb (least LONGEST (unordered_nth t x y)) LONGEST) ≡ 1 =
      one_true (and_true (and_true (split u.0).1 u.1) (lt-ltb (least LONGEST (unordered_nth t x y)) LONGEST (omega arith))) in
      omega arith

  -- a turn of the count
  pub counted_on : (x y c d : ℕ) {m : ℕ} → y < n → open_after t x y ≡ true → Mask (unordered_nth t x y) m → m ≡ 0 → d ≡ c + 1
      → d ≡ c + one_of n (above (conflict_ordered t) x) y
  counted_on x y c d l o h e q = let a = ordered_one x y l o h e in omega arith

  pub counted_off : (x y c d : ℕ) {m : ℕ} → y < n → open_after t x y ≡ true → Mask (unordered_nth t x y) m → (m ≡ 0 → ⊥) → d ≡ c
      → d ≡ c + one_of n (above (conflict_ordered t) x) y
  counted_off x y c d l o h e q = let a = ordered_none x y l o h (pos _ e) in omega arith

  -- a row that isn't open counts for nothing
  pub ordered_out : (x : ℕ) {others : Set} → Rows n (open_after t x) others → (k : ℕ) → in_set others k ≡ false → one_of n (above (conflict_ordered t) x) k ≡ 0
  unfolding one_of above open_after conflict_ordered
  ordered_out x h k gone =
      one_off (not_so _ (λ e.
      let u = split e in
      let v = split u.1 in
      let z = split (split v.1).0 in
      not_both (h.is k ∙ and_true u.0 (and_true (and_true v.0 z.0) z.1)) gone))

  -- nor does a row that is no access
  row_out : (p : ℕ → ℕ → Bool) → ((x y : ℕ) → p x y ≡ true → conflict t x y ≡ true) → {s : Set} → Rows n (λ k. access (t.row k)) s
      → (k : ℕ) → in_set s k ≡ false → row_count n p k ≡ 0
  unfolding row_count above conflict clash
  row_out p only h k gone =
      count_off (λ y. ltb k y and p k y) n (λ y l. not_so _ (λ e.
      let u = split e in
      let o = ltb-true k y u.0 in
      not_both (h.is k ∙ and_true (lt-ltb k n (omega arith)) (split (split (split (split (only k y u.1)).1).0).0).0) gone))

  module _ {s : Set} (h : Rows n (λ k. access (t.row k)) s) where
    pub conflict_off : (k : ℕ) → in_set s k ≡ false → row_count n (conflict t) k ≡ 0
    conflict_off = row_out (conflict t) (λ x y e. e) h

    pub mutual_off : (k : ℕ) → in_set s k ≡ false → row_count n (conflict_mutual t) k ≡ 0
    unfolding conflict_mutual
    mutual_off = row_out (conflict_mutual t) (λ x y e. (split e).0) h

    pub ordered_off : (k : ℕ) → in_set s k ≡ false → row_count n (conflict_ordered t) k ≡ 0
    unfolding conflict_ordered
    ordered_off = row_out (conflict_ordered t) (λ x y e. (split (split e).0).0) h

  -- what a row adds
  pub row_conflicts : (x : ℕ) {s : Set} {c : ℕ} → n ≤ ROWS → Rows n (above (conflict t) x) s → c ≡ count_below ROWS (in_set s) → c ≡ row_count n (conflict t) x
  unfolding row_count
  row_conflicts x few h e = e ∙ set_count few h

  pub row_mutuals : (x : ℕ) {s y : Set} (z : Set) {c : ℕ} → n ≤ ROWS → Rows n (above (conflict t) x) s → Rows n (mutually t x) y
      → ((k : ℕ) → in_set z k ≡ (in_set s k and in_set y k)) → c ≡ count_below ROWS (in_set z) → c ≡ row_count n (conflict_mutual t) x
  unfolding row_count above conflict_mutual
  row_mutuals x z few h m both e = e ∙ set_count few (rows_cong (λ k l. assoc _ _ _) (rows_and h m both))

module _ (t : Table) (n : ℕ) (r : t.rows ≡ n) (few : n ≤ ROWS) where
  all_conflicting : (c : ℕ) → c ≡ sum_below ROWS (row_count n (conflict t)) → c ≡ conflicting t
  unfolding conflicting
  all_conflicting c x = x ∙ sum_pairs n (conflict t) few ∙ ap (λ (z : ℕ). count_pairs z (conflict t)) (sym r)

  all_mutuals : (c : ℕ) → c ≡ sum_below ROWS (row_count n (conflict_mutual t)) → c ≡ mutuals t
  unfolding mutuals
  all_mutuals c x = x ∙ sum_pairs n (conflict_mutual t) few ∙ ap (λ (z : ℕ). count_pairs z (conflict_mutual t)) (sym r)

  all_ordered : (c : ℕ) → c ≡ sum_below ROWS (row_count n (conflict_ordered t)) → c ≡ ordered t
  unfolding ordered
  all_ordered c x = x ∙ sum_pairs n (conflict_ordered t) few ∙ ap (λ (z : ℕ). count_pairs z (conflict_ordered t)) (sym r)

  pub all_counted : {c : Counts} → c.conflicting ≡ sum_below ROWS (row_count n (conflict t))
      → c.mutuals ≡ sum_below ROWS (row_count n (conflict_mutual t)) → c.ordered ≡ sum_below ROWS (row_count n (conflict_ordered t)) → Counted t c
  all_counted {c} x y z =
      let a = all_conflicting c.conflicting x in
      let b = all_mutuals c.mutuals y in
      let d = all_ordered c.ordered z in
      let e = adds_up t in
      record { conflicting = a; mutuals = b; ordered = d; racing = omega arith }
