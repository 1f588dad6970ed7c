-- The first race as an answer, and the turns of its search. Assumes nothing.
use Rattle.std.specs.Prelude.{◌≡◌, cond, ℕ, ◌+◌, ◌-◌, ◌≤◌, ◌<◌}
use Rattle.std.proofs.Math.Path.{refl, subst}
use Rattle.std.proofs.Math.Bool.{true, false}
use Rattle.std.proofs.Common.{⊎_elim, add-one}
use native.Mathlib.Omega.{arith}
use Rattle.std.proofs.Math.Dec.{ltb}
use borrow.Author.Tests.{lt-ltb, le-ltb}
use Rattle.finite.specs.Logic.{◌and◌, split, and_true, and_false_left, and_false_right, not_so, not_both}
use Rattle.finite.specs.Below.{least, least_off, least_found, least_unique, below_cases}
use Rattle.model.specs.declared.Row.{Row}
use Rattle.model.specs.Limits.{LONGEST, BYTES}
use Rattle.model.specs.Row.{touches}
use Rattle.model.specs.Table.{Table}
use Rattle.model.specs.Location.{common}
use Rattle.model.specs.Race.{nth, clash, conflict, unordered, unordered_nth, race_nth, races, races_above, race_partner, has_race, race_row, race_byte}
use Rattle.model_laws.specs.RaceLaws.{Sized, touched, common_left}
use Rattle.model_laws.specs.PairLaws.{inside_out}
use Rattle.std.specs.declared.option.Option.{Option}
use Rattle.std.specs.declared.option.Option.TheVariants.{None, Some}
use Rattle.model.specs.declared.Race.{Race}
use Rattle.find_race.specs.Bytes.{Bounded, may_race}

-- ---- definitions

-- the rows x and y, with the byte b
abbrev pub found_at : ℕ → ℕ → ℕ → Option Race
found_at x y b = Some (record { first = x; second = y; byte = b })

-- the pair x, y and its byte, where x is a row
unfoldable pub race_of : Table → ℕ → ℕ → Option Race
race_of t x y = cond (ltb x t.rows) (found_at x y (race_byte t x y)) None

-- the first race: the lower row, the higher, the byte
unfoldable pub found_race : Table → Option Race
found_race t = race_of t (race_row t) (race_partner t (race_row t))

-- no byte below b is a byte of both rows with no order
abbrev pub NoneBelow : Table → ℕ → ℕ → ℕ → Type 0
NoneBelow t x y b = (c : ℕ) → c < b → unordered t x y c ≡ false

-- what the byte search of a pair yields: the lowest such byte, or the end e
abbrev pub Searched : Table → ℕ → ℕ → ℕ → ℕ → Type 0
Searched t x y e b = NoneBelow t x y b × (b < e → unordered t x y b ≡ true)

-- ---- laws: the byte search of a pair

module _ (t : Table) (x y : ℕ) where
  unordered_common : (b : ℕ) → unordered t x y b ≡ true → common (t.row x) (t.row y) b ≡ true
  unfolding unordered
  unordered_common b e = (split (split e).0).0

  held : (b : ℕ) → unordered t x y b ≡ true → ((t.row x).start ≤ b) × (b < (t.row x).start + (t.row x).size)
  unfolding touches
  held b u = inside_out (t.row x).start (t.row x).size b (common_left (t.row x) (t.row y) b (unordered_common b u))

  -- it starts where x does
  pub none_starts : (b : ℕ) → b ≡ (t.row x).start → NoneBelow t x y b
  none_starts b e c l = not_so (unordered t x y c) (λ u. let h = (held c u).0 in omega arith)

  pub none_more : (b : ℕ) → NoneBelow t x y b → unordered t x y b ≡ false → NoneBelow t x y (b + 1)
  none_more b h f c l = ⊎_elim (λ e. rw e f) (λ m. h c m) (below_cases (rw add-one at l))

  -- it ran out at the end e, or found b
  pub search_ran : (b e hit : ℕ) → NoneBelow t x y b → e ≤ b → hit ≡ e → Searched t x y e hit
  search_ran b e hit h l q = (λ c m. h c (omega arith), λ m. absurd (omega arith))

  pub search_hit : (b e hit : ℕ) → NoneBelow t x y b → unordered t x y b ≡ true → hit ≡ b → Searched t x y e hit
  search_hit b e hit h u q = (λ c m. h c (omega arith), λ m. rw q u)

  module _ (sized : Sized t) (l : x < t.rows) where
    -- a byte with no order is one of x's first LONGEST
    counted : (b : ℕ) → unordered t x y b ≡ true → ((t.row x).start ≤ b) × (b < (t.row x).start + LONGEST)
    counted b u = touched (t.row x) b (sized x l) (common_left (t.row x) (t.row y) b (unordered_common b u))

    -- the search found b
    pub race_nth_lem : (b : ℕ) → NoneBelow t x y b → unordered t x y b ≡ true → race_nth t x y ≡ b - (t.row x).start
    unfolding race_nth unordered_nth
    race_nth_lem b h u =
        let g = counted b u in
        let lo = g.0 in
        let hi = g.1 in
        let e : (t.row x).start + (b - (t.row x).start) ≡ b = omega arith in
        least_unique (λ k. unordered t x y (nth t x k)) LONGEST (b - (t.row x).start) (omega arith) (rw e u) (λ j m. h (nth t x j) (omega arith))

    pub race_byte_lem : (b : ℕ) → NoneBelow t x y b → unordered t x y b ≡ true → b ≡ race_byte t x y
    unfolding race_byte
    race_byte_lem b h u = let g = (counted b u).0 in let e = race_nth_lem b h u in omega arith

    pub pair_on : (b : ℕ) → x < y → may_race t x y ≡ true → NoneBelow t x y b → unordered t x y b ≡ true → races_above t x y ≡ true
    unfolding races_above races may_race
    pair_on b k m h u =
        let g = counted b u in
        let lo = g.0 in
        let hi = g.1 in
        let e = race_nth_lem b h u in
        and_true (lt-ltb x y k) (and_true m (lt-ltb (race_nth t x y) LONGEST (omega arith)))

    -- the search ran out at x's end
    ends : (b : ℕ) → NoneBelow t x y b → (t.row x).start + (t.row x).size ≤ b → races_above t x y ≡ false
    unfolding races_above races race_nth unordered_nth
    ends b h m = and_false_right _ _ (and_false_right _ _ (le-ltb (least LONGEST (λ k. unordered t x y (nth t x k))) LONGEST (omega (arith, none))))
      where
        off : (k : ℕ) → unordered t x y (nth t x k) ≡ false
        off k = not_so (unordered t x y (nth t x k)) (λ u. not_both u (h (nth t x k) (let g = (held (nth t x k) u).1 in omega arith)))

        none : least LONGEST (λ k. unordered t x y (nth t x k)) ≡ LONGEST
        none = least_off (λ k. unordered t x y (nth t x k)) LONGEST (λ k j. off k)

    pub pair_none : (r : Row) (b : ℕ) → r ≡ t.row x → NoneBelow t x y b → r.start + r.size ≤ b → races_above t x y ≡ false
    pair_none r b e h m = ends b h (rw e at m)

  pub pair_off : may_race t x y ≡ false → races_above t x y ≡ false
  unfolding races_above races may_race
  pair_off f = and_false_right _ _ (and_false_left _ _ f)

  -- a racing access ends at or below BYTES
  pub race_ends : Bounded t → (r : Row) → r ≡ t.row x → x < t.rows → may_race t x y ≡ true → r.start + r.size ≤ BYTES
  unfolding may_race conflict clash
  race_ends f r e l m = rw e (f x l (split (split (split (split (split m).0).1).0).0).0)

-- ---- laws: the search of the pairs

module _ (t : Table) where
  -- the search of a row begins after it
  pub row_starts : (x : ℕ) → least (x + 1) (races_above t x) ≡ x + 1
  unfolding races_above
  row_starts x = least_off (λ y. ltb x y and races t x y) (x + 1) (λ k l. and_false_left _ _ (le-ltb x k (omega arith)))

  pub row_off : (x n : ℕ) → n ≡ t.rows → least n (races_above t x) ≡ n → has_race t x ≡ false
  unfolding has_race race_partner
  row_off x n e h =
      let g : least t.rows (races_above t x) ≡ t.rows = subst (λ (z : ℕ). least z (races_above t x) ≡ z) e h in
      le-ltb (least t.rows (races_above t x)) t.rows (omega arith)

  pub race_found : (x y b : ℕ) → least x (has_race t) ≡ x → x < t.rows → least y (races_above t x) ≡ y → y < t.rows → races_above t x y ≡ true
      → b ≡ race_byte t x y → ◌≡◌ {A = Option Race} (found_at x y b) (found_race t)
  unfolding found_race race_of race_row race_partner has_race
  race_found x y b first_x below_x first_y below_y on byte_is =
      let q : least t.rows (races_above t x) ≡ y = least_found (races_above t x) y t.rows first_y on below_y in
      let o : ltb (least t.rows (races_above t x)) t.rows ≡ true = rw q (lt-ltb y t.rows below_y) in
      let f : least t.rows (λ z. ltb (least t.rows (races_above t z)) t.rows) ≡ x = least_found _ x t.rows first_x o below_x in
      rw (f, q, lt-ltb x t.rows below_x, byte_is) refl

  pub race_none : (n : ℕ) → n ≡ t.rows → least n (has_race t) ≡ n → ◌≡◌ {A = Option Race} None (found_race t)
  unfolding found_race race_of race_row
  race_none n e h =
      let g : least t.rows (has_race t) ≡ t.rows = subst (λ (z : ℕ). least z (has_race t) ≡ z) e h in
      rw (g, le-ltb t.rows t.rows (omega arith)) refl
