-- The tests of Race.antt decide what Words.antt calls a race, and what is shown is the first one. Assumes nothing.
use Rattle.std.specs.Prelude.{◌≡◌, ◌⊎◌, ◌↔◌}
use Rattle.std.proofs.Common.{sym, inl, inr, ⊎_elim, eq-or-lt_of_le, ltb-true, leb-true, lt-ltb}
use Rattle.std.proofs.Math.Path.{subst}
use Rattle.std.proofs.Math.Bool.{true}
use Prim.Native.Nat.{ℕ, ◌+◌, ◌-◌, ◌≤◌, ◌<◌}
use native.Mathlib.Omega.{arith}
use Rattle.finite.specs.Logic.{split, and_true, not_in, not_out}
use Rattle.finite.specs.Below.{least_is, least_low}
use Rattle.model.specs.declared.Row.{Row}
use Rattle.model.specs.Limits.{LONGEST}
use Rattle.model.specs.Row.{inside, touches}
use Rattle.model.specs.Table.{Table}
use Rattle.model.specs.Location.{common}
use Rattle.model.specs.Race.{nth, unordered, unordered_nth, race_nth, races, races_above, race_partner, has_race, race_row, race_byte}
use Rattle.model.specs.Words.{Unordered, Races, FirstRace}

-- ---- definitions

-- no row has more than LONGEST bytes, as refusal 7 sees to
abbrev pub Sized : Table → Type 0
Sized t = (i : ℕ) → i < t.rows → (t.row i).size ≤ LONGEST

-- ---- bytes

-- a byte of a row is one of the first LONGEST from its start
pub touched : (r : Row) (b : ℕ) → r.size ≤ LONGEST → touches r b ≡ true → (r.start ≤ b) × (b < r.start + LONGEST)
unfolding touches inside
touched r b l e =
    let p = leb-true r.start b (split e).0 in
    let q = ltb-true b (r.start + r.size) (split e).1 in
    (p, omega arith)

pub common_left : (r q : Row) (b : ℕ) → common r q b ≡ true → touches r b ≡ true
unfolding common
common_left r q b e = (split (split e).0).1

pub common_right : (r q : Row) (b : ℕ) → common r q b ≡ true → touches q b ≡ true
unfolding common
common_right r q b e = (split e).1

module _ (t : Table) where
  pub unordered_is : (x y b : ℕ) → (unordered t x y b ≡ true) ↔ Unordered t x y b
  unfolding unordered
  unordered_is x y b =
      (λ e. ((split (split e).0).0, not_out _ (split (split e).0).1, not_out _ (split e).1), λ u. and_true (and_true u.0 (not_in u.1)) (not_in u.2))

  -- the k-th byte of x from which b is counted
  module _ (sized : Sized t) where
    counted : (x y b : ℕ) → x < t.rows → Unordered t x y b → (k : ℕ) × (k < LONGEST) × (nth t x k ≡ b)
    counted x y b l u =
        let p = touched (t.row x) b (sized x l) (common_left (t.row x) (t.row y) b u.0) in
        let lo = p.0 in
        let hi = p.1 in
        (b - (t.row x).start, omega arith, omega arith)

    nth_low : (x y b : ℕ) → x < t.rows → Unordered t x y b → (race_nth t x y < LONGEST) × (race_byte t x y ≤ b)
    unfolding race_byte race_nth unordered_nth
    nth_low x y b l u =
        let c = counted x y b l u in
        let e : unordered t x y (nth t x c.0) ≡ true = subst (λ (z : ℕ). unordered t x y z ≡ true) (sym c.2) ((unordered_is x y b).1 u) in
        let m = least_low (λ k. unordered t x y (nth t x k)) LONGEST c.0 e in
        let f = c.1 in
        let g = c.2 in
        (omega arith, omega arith)

    nth_hit : (x y : ℕ) → race_nth t x y < LONGEST → Unordered t x y (race_byte t x y)
    unfolding race_byte race_nth unordered_nth
    nth_hit x y l = (unordered_is x y _).0 ((least_is (λ k. unordered t x y (nth t x k)) LONGEST).hit l)

    -- the test decides
    pub races_is : (x y : ℕ) → x < t.rows → (races t x y ≡ true) ↔ Races t x y
    unfolding races
    races_is x y l = (
      λ e.
          let a = split e in
          let b = split a.0 in
          (b.0, not_out _ b.1, (race_byte t x y, nth_hit x y (ltb-true _ _ a.1))),
      λ r. and_true (and_true r.0 (not_in r.1)) (lt-ltb _ _ (nth_low x y r.2.0 l r.2.1).0),
    )

    -- ---- the first race

    above_is : (x y : ℕ) → x < t.rows → (races_above t x y ≡ true) ↔ ((x < y) × Races t x y)
    unfolding races_above
    above_is x y l = (
      λ e. (ltb-true x y (split e).0, (races_is x y l).0 (split e).1),
      λ p. and_true (lt-ltb x y p.0) ((races_is x y l).1 p.1),
    )

    partner_low : (x y : ℕ) → x < y → y < t.rows → Races t x y → race_partner t x ≤ y
    unfolding race_partner
    partner_low x y l m r = least_low (races_above t x) t.rows y ((above_is x y (omega arith)).1 (l, r))

    row_low : (x y : ℕ) → x < y → y < t.rows → Races t x y → race_row t ≤ x
    unfolding race_row has_race
    row_low x y l m r =
        let p = partner_low x y l m r in
        least_low (has_race t) t.rows x (lt-ltb (race_partner t x) t.rows (omega arith))

    race_row_hit : race_row t < t.rows → has_race t (race_row t) ≡ true
    unfolding race_row
    race_row_hit l = (least_is (has_race t) t.rows).hit l

    race_row_bound : race_row t ≤ t.rows
    unfolding race_row
    race_row_bound = (least_is (has_race t) t.rows).bound

    partner_hit : (x : ℕ) → race_partner t x < t.rows → races_above t x (race_partner t x) ≡ true
    unfolding race_partner
    partner_hit x l = (least_is (races_above t x) t.rows).hit l

    pub race_shown : race_row t < t.rows → FirstRace t (race_row t) (race_partner t (race_row t)) (race_byte t (race_row t) (race_partner t (race_row t)))
    unfolding has_race
    race_shown l =
        record {
          below = pair.0;
          rows = has;
          racing = pair.1;
          open_byte = nth_hit x y byte_below.0;
          first = first;
          lowest = λ c u. (nth_low x y c l u).1;
        }
      where
        x : ℕ
        x = race_row t

        y : ℕ
        y = race_partner t x

        has : y < t.rows
        has = ltb-true y t.rows (race_row_hit l)

        pair : (x < y) × Races t x y
        pair = (above_is x y l).0 (partner_hit x has)

        byte_below : (race_nth t x y < LONGEST) × (race_byte t x y ≤ pair.1.2.0)
        byte_below = nth_low x y pair.1.2.0 l pair.1.2.1

        first : (u v : ℕ) → u < v → v < t.rows → Races t u v → (x < u) ⊎ ((x ≡ u) × (y ≤ v))
        first u v p q r = ⊎_elim (λ e. inr (e, subst (λ (z : ℕ). race_partner t z ≤ v) (sym e) (partner_low u v p q r))) (λ m. inl m)
            (eq-or-lt_of_le (row_low u v p q r))

    pub race_none : (race_row t ≡ t.rows) ↔ ((x y : ℕ) → x < y → y < t.rows → Races t x y → ⊥)
    race_none = (
      λ e x y l m r. let p = row_low x y l m r in
          omega arith,
      λ f. ⊎_elim (λ e. e) (λ l. let s = race_shown l in
          absurd (f _ _ s.below s.rows s.racing)) (eq-or-lt_of_le race_row_bound),
    )
