-- L3 by the first elements of its chains, as the functions ask it, and the one domain that need be asked of. Assumes nothing.
use Rattle.std.specs.Prelude.{◌≡◌, Bool, not, ◌⊎◌, List, leb, eqb}
use Rattle.std.proofs.Math.Path.{refl, ap}
use Rattle.std.proofs.Common.{sym, ◌∙◌}
use Rattle.std.proofs.Math.Bool.{true, false, cond}
use Rattle.std.proofs.Math.Logic.{inl, inr, ⊎_elim}
use Prim.Native.Nat.{ℕ, suc, ◌+◌, ◌-◌, ◌*◌, ◌/◌, ◌%◌, ◌≤◌, ◌<◌, min}
use native.Mathlib.Omega.{arith}
use Rattle.std.proofs.Math.Decide.{dec_lt}
use borrow.Author.Tests.{eqb-true, eq-eqb, ltb-true, leb-true, le-leb, not-false}
use Rattle.finite.specs.Logic.{◌and◌, ◌or◌, and_false_right, and_on_right, not_out, split, and_true, not_both, not_so, bool_ext, which, or_left, or_right, or_cases}
use Rattle.finite.specs.Below.{any_below, any_in, any_out, any_off, any_not}
use Rattle.finite.specs.Closure.{through}
use Rattle.model.specs.declared.Row.{Row}
use Rattle.model.specs.Row.{plain, reads, meets, makes_available, makes_visible}
use Rattle.model.specs.Table.{Mode, Table, row_of, decode}
use Rattle.run.specs.Layout.{places_in, mode_in, rows_in, table_in}
use Rattle.model.specs.Scope.{DEVICE, shares}
use Rattle.model.specs.Moment.{BEFORE, AFTER, part, itself, availability_of, visibility_of, program_ordered, availability, visibility, program_order}
use Rattle.model.specs.Happens.{happens}
use Rattle.model.specs.Availability.{covers_of, public_write, availability_moment, visibility_moment, first_available, last_visible, broadens, narrows, availability_chain}
use Rattle.model.specs.Availability.{visibility_chain, available_by, ends_availability, visible_by, begins_visibility, in_domain, meets_via, meets_in, by_domain}
use Rattle.model.specs.Availability.{available_via, L3}
use Rattle.model_laws.specs.ChainLaws.{shares_wider, shares_right}
use Rattle.bits.specs.Bit.{bit}
use Rattle.bits.specs.Matrix.{rel}
use Rattle.work_area.specs.Regions.{HAPPENS, MOMENTS, GRID, REACH_OUT, REACH_IN}
use Rattle.flags_location.specs.Given.{Pair, Element, happens_is, reach_out, reach_in}

-- ---- definitions

-- which moment of a row its availability and visibility moments are, if it has them
unfoldable pub available_part : Row → ℕ
available_part s = cond (plain s) AFTER BEFORE

unfoldable pub visible_part : Row → ℕ
visible_part s = cond (plain s) BEFORE AFTER

-- what two bytes of row i tell of whether it makes r available, and of row j, of whether it makes visible to q
unfoldable pub may_avail : List ℕ → Row → ℕ → Bool
may_avail b r i = eqb r.agent (row_of b i).agent and meets (row_of b i).flags 2

unfoldable pub may_see : List ℕ → Row → ℕ → Bool
may_see b q j = eqb (row_of b j).agent q.agent and meets (row_of b j).flags 4

-- moment c of s is a first element of availability of x, which is r, at b
unfoldable pub available_rows : ℕ → ℕ → Row → ℕ → Row → ℕ → Bool
available_rows n x r c s b = availability_of s (part c) and program_ordered n (itself x) c r s and covers_of s r b

-- moment v of s is a last element of visibility of y, which is q, at b
unfoldable pub visible_rows : ℕ → ℕ → Row → ℕ → Row → ℕ → Bool
visible_rows n y q v s b = visibility_of s (part v) and program_ordered n v (itself y) s q and covers_of s q b

-- a is an availability operation of x's agent after x, v is a visibility operation of y's agent before y, whatever they cover
unfoldable pub available_after : Table → ℕ → ℕ → Bool
available_after t x a = availability t (availability_moment t a) and program_order t (itself x) (availability_moment t a)

unfoldable pub visible_before : Table → ℕ → ℕ → Bool
visible_before t y v = visibility t (visibility_moment t v) and program_order t (visibility_moment t v) (itself y)

-- the broadest scope that is no broader than either: scopes are nested, so that no smaller domain need be asked of
unfoldable pub widest : ℕ → ℕ → ℕ
widest s u = min (min s u) DEVICE

-- one domain of scope d holds the agents of r and q, that of s beside the one, that of u beside the other
unfoldable pub meet_in : List (List ℕ) → ℕ → Row → Row → Row → Row → Bool
meet_in p d r q s u =
    leb 1 d and shares p d r.agent q.agent and shares p d r.agent s.agent and shares p d q.agent u.agent

module _ (t : Table) (x y : ℕ) where
  -- what c makes available, w makes visible
  unfoldable pub seen : ℕ → ℕ → Bool
  seen c w =
      happens t (availability_moment t c) (visibility_moment t w)
      and meet_in t.places (widest (t.row c).scope (t.row w).scope) (t.row x) (t.row y) (t.row c) (t.row w)

  -- y meets at once what c makes available
  unfoldable pub met_at_once : ℕ → Bool
  met_at_once c =
      happens t (availability_moment t c) (itself y)
      and meet_in t.places (widest (t.row c).scope DEVICE) (t.row x) (t.row y) (t.row c) (t.row y)

  -- a visibility chain from w to v shows what c makes available
  unfoldable pub starts_with : ℕ → ℕ → ℕ → Bool
  starts_with c v w = through (narrows t) t.rows w v and seen c w

  module _ (b : ℕ) where
    -- y sees by way of the last element v what c makes available
    unfoldable pub shown_by : ℕ → ℕ → Bool
    shown_by c v = last_visible t y b v and (seen c v or (t.chains and any_below t.rows (starts_with c v)))

    -- y meets what c makes available
    unfoldable pub ends_at : ℕ → Bool
    ends_at c = cond (reads (t.row y)) (any_below t.rows (shown_by c)) (met_at_once c)

    -- an availability chain from a to c makes available what y meets
    unfoldable pub ends_with : ℕ → ℕ → Bool
    ends_with a c = through (broadens t) t.rows a c and ends_at c

    -- y meets what a chain from the first element a makes available
    unfoldable pub carried_by : ℕ → Bool
    carried_by a = first_available t x b a and (ends_at a or (t.chains and any_below t.rows (ends_with a)))

-- ---- laws: the one domain

module _ (p : List (List ℕ)) (r q s u : Row) where
  meet_in_lem : (m n k : ℕ) → k < DEVICE → suc k ≤ m → suc k ≤ n → shares p (suc k) r.agent q.agent ≡ true → shares p (suc k) r.agent s.agent ≡ true
      → shares p (suc k) q.agent u.agent ≡ true → meet_in p (widest m n) r q s u ≡ true
  unfolding meet_in widest
  meet_in_lem m n k small first second shared near far =
      and_true (and_true (and_true (le-leb 1 (min (min m n) DEVICE) (omega arith))
      (shares_wider p (suc k) (min (min m n) DEVICE) r.agent q.agent (omega arith) (omega arith) (omega arith) shared))
      (shares_wider p (suc k) (min (min m n) DEVICE) r.agent s.agent (omega arith) (omega arith) (omega arith) near))
      (shares_wider p (suc k) (min (min m n) DEVICE) q.agent u.agent (omega arith) (omega arith) (omega arith) far)

  -- the domain that is found, by the number that by_domain counts it by
  meet_out : (m n : ℕ) → meet_in p (widest m n) r q s u ≡ true
      → (k : ℕ) × (k < DEVICE) × (suc k ≤ m) × (suc k ≤ n) × (shares p (suc k) r.agent q.agent ≡ true)
      × (shares p (suc k) r.agent s.agent ≡ true) × (shares p (suc k) q.agent u.agent ≡ true)
  unfolding meet_in widest
  meet_out m n e =
      let f = split e in
      let g = split f.0 in
      let h = split g.0 in
      let l : 1 ≤ min (min m n) DEVICE = leb-true 1 (min (min m n) DEVICE) h.0 in
      let k : suc (min (min m n) DEVICE - 1) ≡ min (min m n) DEVICE = omega arith in
      (min (min m n) DEVICE - 1, omega arith, omega arith, omega arith, rw k h.1, rw k g.1, rw k f.1)

-- ---- laws: L3 by first elements

module _ (t : Table) (x y b c : ℕ) where
  -- a domain that by_domain finds, for a reader: w begins a chain that y sees by
  domain_shown : (w : ℕ) → w < t.rows → reads (t.row y) ≡ true → seen t x y c w ≡ true → begins_visibility t y b w ≡ true
      → any_below DEVICE (by_domain t x y b c) ≡ true
  unfolding seen by_domain in_domain meets_in meets_via
  domain_shown w low reader e last =
      let f = split e in
      let k = meet_out t.places (t.row x) (t.row y) (t.row c) (t.row w) (t.row c).scope (t.row w).scope f.1 in
      any_in (by_domain t x y b c) DEVICE k.0 k.1
      (and_true (and_true k.4 (and_true (le-leb (suc k.0) (t.row c).scope k.2) k.5))
      (rw reader (any_in (meets_via t (suc k.0) y b c) t.rows w low
      (and_true (and_true (and_true (le-leb (suc k.0) (t.row w).scope k.3) k.6) f.0) last))))

  ends_reader_there : reads (t.row y) ≡ true → any_below t.rows (shown_by t x y b c) ≡ true → any_below DEVICE (by_domain t x y b c) ≡ true
  unfolding shown_by starts_with begins_visibility visible_by visibility_chain
  ends_reader_there r e =
      let v = any_out (shown_by t x y b c) t.rows e in
      let f = split v.2 in
      ⊎_elim
      (λ h. domain_shown v.0 v.1 r h (any_in (visible_by t y b v.0) t.rows v.0 v.1 (and_true f.0 (or_left _ (eq-eqb v.0 v.0 refl)))))
      (λ h.
      let w = any_out (starts_with t x y c v.0) t.rows (split h).1 in
      let g = split w.2 in
      domain_shown w.0 w.1 r g.1 (any_in (visible_by t y b w.0) t.rows v.0 v.1
      (and_true f.0 (or_right (eqb w.0 v.0) (and_true (split h).0 g.0)))))
      (or_cases (seen t x y c v.0) (t.chains and any_below t.rows (starts_with t x y c v.0)) f.1)

  seen_of : (k w : ℕ) → k < DEVICE → shares t.places (suc k) (t.row x).agent (t.row y).agent ≡ true → in_domain t (suc k) x c ≡ true
      → in_domain t (suc k) y w ≡ true → happens t (availability_moment t c) (visibility_moment t w) ≡ true → seen t x y c w ≡ true
  unfolding seen in_domain
  seen_of k w small shared near far before =
      and_true before
      (meet_in_lem t.places (t.row x) (t.row y) (t.row c) (t.row w) (t.row c).scope (t.row w).scope k small
      (leb-true (suc k) (t.row c).scope (split near).0) (leb-true (suc k) (t.row w).scope (split far).0) shared (split near).1 (split far).1)

  ends_reader_back : reads (t.row y) ≡ true → any_below DEVICE (by_domain t x y b c) ≡ true → any_below t.rows (shown_by t x y b c) ≡ true
  unfolding by_domain meets_in meets_via begins_visibility visible_by visibility_chain shown_by starts_with
  ends_reader_back r e =
      let k = any_out (by_domain t x y b c) DEVICE e in
      let f = split k.2 in
      let m : any_below t.rows (meets_via t (suc k.0) y b c) ≡ true = rw r at f.1 in
      let w = any_out (meets_via t (suc k.0) y b c) t.rows m in
      let g = split w.2 in
      let h = split g.0 in
      let v = any_out (visible_by t y b w.0) t.rows g.1 in
      let i = split v.2 in
      let j : seen t x y c w.0 ≡ true = seen_of k.0 w.0 k.1 (split f.0).0 (split f.0).1 h.0 h.1 in
      any_in (shown_by t x y b c) t.rows v.0 v.1
      (and_true i.0
      (⊎_elim
      (λ q. let o : w.0 ≡ v.0 = eqb-true w.0 v.0 q in or_left _ (rw o at j))
      (λ q. or_right (seen t x y c v.0) (and_true (split q).0 (any_in (starts_with t x y c v.0) t.rows w.0 w.1 (and_true (split q).1 j))))
      (or_cases (eqb w.0 v.0) (t.chains and through (narrows t) t.rows w.0 v.0) i.1)))

  -- any other row
  ends_other_there : reads (t.row y) ≡ false → met_at_once t x y c ≡ true → any_below DEVICE (by_domain t x y b c) ≡ true
  unfolding met_at_once by_domain in_domain meets_in
  ends_other_there r e =
      let f = split e in
      let k = meet_out t.places (t.row x) (t.row y) (t.row c) (t.row y) (t.row c).scope DEVICE f.1 in
      any_in (by_domain t x y b c) DEVICE k.0 k.1
      (and_true (and_true k.4 (and_true (le-leb (suc k.0) (t.row c).scope k.2) k.5)) (rw r f.0))

  ends_other_back : reads (t.row y) ≡ false → any_below DEVICE (by_domain t x y b c) ≡ true → met_at_once t x y c ≡ true
  unfolding met_at_once by_domain in_domain meets_in
  ends_other_back r e =
      let k = any_out (by_domain t x y b c) DEVICE e in
      let l : k.0 < DEVICE = k.1 in
      let f = split k.2 in
      let h : happens t (availability_moment t c) (itself y) ≡ true = rw r at f.1 in
      let g = split f.0 in
      and_true h
      (meet_in_lem t.places (t.row x) (t.row y) (t.row c) (t.row y) (t.row c).scope DEVICE k.0 l
      (leb-true (suc k.0) (t.row c).scope (split g.1).0) (omega arith) g.0
      (split g.1).1 (shares_right t.places (suc k.0) (t.row x).agent (t.row y).agent (omega arith) (omega arith) g.0))

  ends_is : ends_at t x y b c ≡ any_below DEVICE (by_domain t x y b c)
  unfolding ends_at
  ends_is =
      ⊎_elim
      (λ r. rw r (bool_ext (any_below t.rows (shown_by t x y b c)) (any_below DEVICE (by_domain t x y b c)) (ends_reader_there r) (ends_reader_back r)))
      (λ r. rw r (bool_ext (met_at_once t x y c) (any_below DEVICE (by_domain t x y b c)) (ends_other_there r) (ends_other_back r)))
      (which (reads (t.row y)))

module _ (t : Table) (x y b : ℕ) where
  firsts_there : any_below t.rows (carried_by t x y b) ≡ true → any_below t.rows (available_via t x y b) ≡ true
  unfolding carried_by ends_with available_via ends_availability available_by availability_chain
  firsts_there e =
      let a = any_out (carried_by t x y b) t.rows e in
      let f = split a.2 in
      ⊎_elim
      (λ h.
      any_in (available_via t x y b) t.rows a.0 a.1
      (and_true (any_in (available_by t x b a.0) t.rows a.0 a.1 (and_true f.0 (or_left _ (eq-eqb a.0 a.0 refl))))
      (sym (ends_is t x y b a.0) ∙ h)))
      (λ h.
      let c = any_out (ends_with t x y b a.0) t.rows (split h).1 in
      let g = split c.2 in
      any_in (available_via t x y b) t.rows c.0 c.1
      (and_true (any_in (available_by t x b c.0) t.rows a.0 a.1
      (and_true f.0 (or_right (eqb a.0 c.0) (and_true (split h).0 g.0)))) (sym (ends_is t x y b c.0) ∙ g.1)))
      (or_cases (ends_at t x y b a.0) (t.chains and any_below t.rows (ends_with t x y b a.0)) f.1)

  firsts_back : any_below t.rows (available_via t x y b) ≡ true → any_below t.rows (carried_by t x y b) ≡ true
  unfolding carried_by ends_with available_via ends_availability available_by availability_chain
  firsts_back e =
      let c = any_out (available_via t x y b) t.rows e in
      let f = split c.2 in
      let a = any_out (available_by t x b c.0) t.rows f.0 in
      let g = split a.2 in
      let h : ends_at t x y b c.0 ≡ true = ends_is t x y b c.0 ∙ f.1 in
      any_in (carried_by t x y b) t.rows a.0 a.1
      (and_true g.0
      (⊎_elim
      (λ q. let o : a.0 ≡ c.0 = eqb-true a.0 c.0 q in or_left _ (rw o h))
      (λ q. or_right (ends_at t x y b a.0) (and_true (split q).0 (any_in (ends_with t x y b a.0) t.rows c.0 c.1 (and_true (split q).1 h))))
      (or_cases (eqb a.0 c.0) (t.chains and through (broadens t) t.rows a.0 c.0) g.1)))

  firsts_is : any_below t.rows (carried_by t x y b) ≡ any_below t.rows (available_via t x y b)
  firsts_is = bool_ext (any_below t.rows (carried_by t x y b)) (any_below t.rows (available_via t x y b)) firsts_there firsts_back

  pub L3_off : (r q : Row) → r ≡ t.row x → q ≡ t.row y → public_write r q ≡ false → L3 t x y b ≡ false
  unfolding L3 ◌and◌
  L3_off r q g h e = rw (← g, ← h, e) refl

  pub L3_on : (r q : Row) (d : Bool) → r ≡ t.row x → q ≡ t.row y → public_write r q ≡ true → d ≡ any_below t.rows (carried_by t x y b) → d ≡ L3 t x y b
  unfolding L3 ◌and◌
  L3_on r q d g h e f = rw (← g, ← h, e) (f ∙ firsts_is)

  pub ends_reader : (c : ℕ) (q : Row) (d : Bool) → q ≡ t.row y → reads q ≡ true → d ≡ any_below t.rows (shown_by t x y b c) → d ≡ ends_at t x y b c
  unfolding ends_at
  ends_reader c q d g e f = rw (← g, e) f

  pub ends_other : (c : ℕ) (q : Row) (d : Bool) → q ≡ t.row y → reads q ≡ false → d ≡ met_at_once t x y c → d ≡ ends_at t x y b c
  unfolding ends_at
  ends_other c q d g e f = rw (← g, e) f

-- ---- laws: a table's rows

pub or_on : (a b : Bool) → a ≡ true → true ≡ (a or b)
unfolding ◌or◌
or_on a b e = rw e refl

-- neither the one nor, without chains, the other
pub or_neither : (a c b : Bool) → a ≡ false → c ≡ false → false ≡ (a or (c and b))
unfolding ◌or◌ ◌and◌
or_neither a c b e f = rw (e, f) refl

pub or_other : (a c b d : Bool) → a ≡ false → c ≡ true → d ≡ b → d ≡ (a or (c and b))
unfolding ◌or◌ ◌and◌
or_other a c b d e f g = rw (e, f) g

pub available_small : (s : Row) → available_part s < 3
unfolding available_part
available_small s = ⊎_elim (λ e. rw e (omega arith)) (λ e. rw e (omega arith)) (which (plain s))

pub visible_small : (s : Row) → visible_part s < 3
unfolding visible_part
visible_small s = ⊎_elim (λ e. rw e (omega arith)) (λ e. rw e (omega arith)) (which (plain s))

module _ (t : List ℕ) (p : List (List ℕ)) (mode : Mode) (n x y : ℕ) where
  -- an element, whatever it covers, by the row's one moment
  pub after_row : (a k : ℕ) (r s : Row) (g d : Bool) → r ≡ row_of t x → s ≡ row_of t a → k ≡ available_part s → k < 3 → g ≡ availability_of s k
      → d ≡ program_ordered n (itself x) (3 * a + k) r s → available_after (decode t p mode n) x a ≡ (g and d)
  unfolding decode available_after availability program_order availability_moment available_part
  after_row a k r s g d first_is row_is part_is small makes ordered =
      let e : (3 * x + 1) / 3 ≡ x = omega arith in
      let f : (3 * a + k) / 3 ≡ a = omega arith in
      let h : (3 * a + k) % 3 ≡ k = omega arith in
      let q : k ≡ cond (plain (row_of t a)) AFTER BEFORE = part_is ∙ ap available_part row_is in
      rw (makes, ordered, first_is, row_is, ← q, e, f, h) refl

  pub before_row : (v k : ℕ) (q s : Row) (g d : Bool) → q ≡ row_of t y → s ≡ row_of t v → k ≡ visible_part s → k < 3 → g ≡ visibility_of s k
      → d ≡ program_ordered n (3 * v + k) (itself y) s q → visible_before (decode t p mode n) y v ≡ (g and d)
  unfolding decode visible_before visibility program_order visibility_moment visible_part
  before_row v k q s g d second_is row_is part_is small makes ordered =
      let e : (3 * y + 1) / 3 ≡ y = omega arith in
      let f : (3 * v + k) / 3 ≡ v = omega arith in
      let h : (3 * v + k) % 3 ≡ k = omega arith in
      let o : k ≡ cond (plain (row_of t v)) BEFORE AFTER = part_is ∙ ap visible_part row_is in
      rw (makes, ordered, second_is, row_is, ← o, e, f, h) refl

  -- two bytes, and the number of the row, tell of an element
  pub after_tells : (a : ℕ) → available_after (decode t p mode n) x a ≡ true → (may_avail t (row_of t x) a ≡ true) × (x ≤ a)
  unfolding availability_of program_ordered makes_available may_avail row_of
  after_tells a e =
      let k = available_small (row_of t a) in
      let f = split (sym (after_row a _ _ _ _ _ refl refl refl k refl refl) ∙ e) in
      let o = split (split (split f.1).0).0 in
      let l : 3 * x + 1 < 3 * a + available_part (row_of t a) = ltb-true _ _ o.0 in
      (and_true o.1 (split (split f.0).0).0, omega arith)

  pub before_tells : (v : ℕ) → visible_before (decode t p mode n) y v ≡ true → (may_see t (row_of t y) v ≡ true) × (v ≤ y)
  unfolding visibility_of program_ordered makes_visible may_see row_of
  before_tells v e =
      let k = visible_small (row_of t v) in
      let f = split (sym (before_row v _ _ _ _ _ refl refl refl k refl refl) ∙ e) in
      let o = split (split (split f.1).0).0 in
      let l : 3 * v + visible_part (row_of t v) < 3 * y + 1 = ltb-true _ _ o.0 in
      (and_true o.1 (split (split f.0).0).0, omega arith)

module _ (t : List ℕ) (p : List (List ℕ)) (mode : Mode) (n x y b : ℕ) where
  chains_of : (decode t p mode n).chains ≡ true → mode.chains ≡ true
  unfolding decode
  chains_of e = e

  -- a first element, by the row's one moment
  first_row : (a k : ℕ) (r s : Row) → r ≡ row_of t x → s ≡ row_of t a → k ≡ available_part s → k < 3
      → available_rows n x r (3 * a + k) s b ≡ first_available (decode t p mode n) x b a
  unfolding decode first_available availability program_order available_rows availability_moment available_part
  first_row a k r s first_is row_is part_is small =
      let e : (3 * x + 1) / 3 ≡ x = omega arith in
      let f : (3 * a + k) / 3 ≡ a = omega arith in
      let q : k ≡ cond (plain (row_of t a)) AFTER BEFORE = part_is ∙ ap available_part row_is in
      rw (first_is, row_is, ← q, e, f) refl

  last_row : (v k : ℕ) (q s : Row) → q ≡ row_of t y → s ≡ row_of t v → k ≡ visible_part s → k < 3
      → visible_rows n y q (3 * v + k) s b ≡ last_visible (decode t p mode n) y b v
  unfolding decode last_visible visibility program_order visible_rows visibility_moment visible_part
  last_row v k q s second_is row_is part_is small =
      let e : (3 * y + 1) / 3 ≡ y = omega arith in
      let f : (3 * v + k) / 3 ≡ v = omega arith in
      let o : k ≡ cond (plain (row_of t v)) BEFORE AFTER = part_is ∙ ap visible_part row_is in
      rw (second_is, row_is, ← o, e, f) refl

  -- a row that two bytes rule out, and no row before x
  first_tells : (a : ℕ) → first_available (decode t p mode n) x b a ≡ true → (may_avail t (row_of t x) a ≡ true) × (x ≤ a)
  unfolding first_available available_after
  first_tells a e = after_tells t p mode n x y a (split e).0

  pub carried_low : any_below x (carried_by (decode t p mode n) x y b) ≡ false
  unfolding carried_by
  carried_low = any_not _ x (λ a l. not_so _ (λ e. let h = (first_tells a (split e).0).1 in omega arith))

  last_tells : (v : ℕ) → last_visible (decode t p mode n) y b v ≡ true → (may_see t (row_of t y) v ≡ true) × (v ≤ y)
  unfolding last_visible visible_before
  last_tells v e = before_tells t p mode n x y v (split e).0

  -- a row that two bytes, or without chains two bits, rule out; no row after y
  seen_bits_lem : (c v : ℕ) (h k : Bool) → h ≡ happens (decode t p mode n) (availability_moment (decode t p mode n) c) (3 * v)
      → k ≡ happens (decode t p mode n) (availability_moment (decode t p mode n) c) (3 * v + 2) → seen (decode t p mode n) x y c v ≡ true → (h ≡ true) ⊎ (k ≡ true)
  unfolding seen visibility_moment
  seen_bits_lem c v h k before after g = ⊎_elim (λ l. inl (before ∙ at_zero l)) (λ l. inr (after ∙ at_two l)) (which (plain ((decode t p mode n).row v)))
    where
      at_zero : plain ((decode t p mode n).row v) ≡ true → happens (decode t p mode n) (availability_moment (decode t p mode n) c) (3 * v) ≡ true
      at_zero l = let e : 3 * v + 0 ≡ 3 * v = omega arith in rw (l, e) at (split g).0

      at_two : plain ((decode t p mode n).row v) ≡ false → happens (decode t p mode n) (availability_moment (decode t p mode n) c) (3 * v + 2) ≡ true
      at_two l = rw l at (split g).0

  shown_off : (c v : ℕ) (q : Row) (h k : Bool) → q ≡ row_of t y → h ≡ happens (decode t p mode n) (availability_moment (decode t p mode n) c) (3 * v)
      → k ≡ happens (decode t p mode n) (availability_moment (decode t p mode n) c) (3 * v + 2) → ((mode.chains or h or k) and may_see t q v) ≡ false
      → shown_by (decode t p mode n) x y b c v ≡ false
  unfolding shown_by
  shown_off c v q h k second_is before after off = not_so _ told
    where
      some : (seen (decode t p mode n) x y c v
          or ((decode t p mode n).chains and any_below (decode t p mode n).rows (starts_with (decode t p mode n) x y c v))) ≡ true
          → (mode.chains or h or k) ≡ true
      some e = ⊎_elim (λ g. ⊎_elim (λ f. or_left k (or_right mode.chains f)) (λ f. or_right (mode.chains or h) f)
          (seen_bits_lem c v h k before after g)) (λ g. or_left k (or_left h (chains_of (split g).0))) (or_cases _ _ e)

      told : shown_by (decode t p mode n) x y b c v ≡ true → ⊥
      told e = not_both (and_true (some (split e).1) (rw second_is (last_tells v (split e).0).0)) off

  available_of_lem : (i k : ℕ) (s : Row) → s ≡ row_of t i → k ≡ available_part s → 3 * i + k ≡ availability_moment (decode t p mode n) i
  unfolding decode availability_moment available_part
  available_of_lem i k s row_is part_is = rw (part_is, row_is) refl

  pub shown_none : (c : ℕ) → any_below (y + 1) (shown_by (decode t p mode n) x y b c) ≡ false → any_below n (shown_by (decode t p mode n) x y b c) ≡ false
  unfolding shown_by
  shown_none c e = any_not _ n (λ v l. go v (dec_lt v (y + 1)))
    where
      go : (v : ℕ) → Dec (v < y + 1) → shown_by (decode t p mode n) x y b c v ≡ false
      go v (yes l) = any_off _ (y + 1) e v l
      go v (no l) = not_so _ (λ u. let h = (last_tells v (split u).0).1 in omega arith)

-- ---- laws: what is asked first of a last element

module _ (b w : List ℕ) (y i v a g : ℕ) (f : Bool) (agent_is : a ≡ (row_of b v).agent) (other_is : g ≡ (row_of b y).agent) (flag_is : f ≡ meets (row_of b v).flags 4)
  where
    see_is : may_see b (row_of b y) v ≡ (eqb a g and f)
    unfolding may_see
    see_is = rw (agent_is, other_is, flag_is) refl

    pub show_off : (x : Bool) → not (eqb a g and f) ≡ true → false ≡ (x and may_see b (row_of b y) v)
    show_off x fail = sym (and_false_right _ _ (see_is ∙ not_out (eqb a g and f) fail))

    pub show_on : {k : ℕ} {s : Row} {m c h e : Bool} → not (eqb a g and f) ≡ false → s ≡ row_of b i → (k ≡ available_part s) × (k < 3) → c ≡ m
        → h ≡ rel w HAPPENS MOMENTS (3 * i + k) (3 * v) → e ≡ rel w HAPPENS MOMENTS (3 * i + k) (3 * v + 2)
        → (c or h or e)
        ≡ ((m or rel w HAPPENS MOMENTS (3 * i + available_part (row_of b i)) (3 * v) or rel w HAPPENS MOMENTS (3 * i + available_part (row_of b i)) (3 * v + 2))
        and may_see b (row_of b y) v)
    show_on {k} pass row_is part chains_is before after =
        let p : k ≡ available_part (row_of b i) = part.0 ∙ ap available_part row_is in
        rw (chains_is, before, after, p) (sym (and_on_right _ _ (see_is ∙ not-false (eqb a g and f) pass)))

-- ---- laws: what is asked of a pair

module _ {t : List ℕ} {n x y : ℕ} {w : List ℕ} (pair : Pair t n x y w) where
  pub carried_off : (b a : ℕ) → may_avail (rows_in t) (row_of (rows_in t) x) a ≡ false → carried_by (table_in t n) x y b a ≡ false
  unfolding carried_by
  carried_off b a off = not_so _ (λ e. not_both (first_tells (rows_in t) (places_in t) (mode_in t) n x y b a (split e).0).0 off)

  pub carried_row : (b a : ℕ) {k : ℕ} {r s : Row} {h : Bool} → r ≡ row_of (rows_in t) x → s ≡ row_of (rows_in t) a → (k ≡ available_part s) × (k < 3) → h ≡ available_rows n x r (3 * a + k) s b
      → carried_by (table_in t n) x y b a
      ≡ (h and (ends_at (table_in t n) x y b a or ((mode_in t).chains and any_below n (ends_with (table_in t n) x y b a))))
  unfolding carried_by decode
  carried_row b a {k} {r} {s} {h} first_is row_is part told =
      let o : h ≡ first_available (table_in t n) x b a = told ∙ first_row (rows_in t) (places_in t) (mode_in t) n x y b a k r s first_is row_is part.0 part.1 in
      rw o refl

  pub shown_row : (b c v : ℕ) {k : ℕ} {q u : Row} {h : Bool} → q ≡ row_of (rows_in t) y → u ≡ row_of (rows_in t) v → (k ≡ visible_part u) × (k < 3) → h ≡ visible_rows n y q (3 * v + k) u b
      → shown_by (table_in t n) x y b c v
      ≡ (h and (seen (table_in t n) x y c v or ((mode_in t).chains and any_below n (starts_with (table_in t n) x y c v))))
  unfolding shown_by decode
  shown_row b c v {k} {q} {u} {h} second_is row_is part told =
      let o : h ≡ last_visible (table_in t n) y b v = told ∙ last_row (rows_in t) (places_in t) (mode_in t) n x y b v k q u second_is row_is part.0 part.1 in
      rw o refl

  pub ends_row : {h : Bool} (b a c : ℕ) → (mode_in t).chains ≡ true → a < n → c < n → h ≡ bit w ((REACH_OUT + a * GRID) * 64 + c)
      → ends_with (table_in t n) x y b a c ≡ (h and ends_at (table_in t n) x y b c)
  unfolding ends_with decode
  ends_row b a c chains l m e = rw (reach_out pair a c chains l m e) refl

  pub starts_row : {h : Bool} (c v j : ℕ) → (mode_in t).chains ≡ true → v < n → j < n → h ≡ bit w ((REACH_IN + j * GRID) * 64 + v)
      → starts_with (table_in t n) x y c v j ≡ (h and seen (table_in t n) x y c j)
  unfolding starts_with decode
  starts_row c v j chains l m e = rw (reach_in pair j v chains m l e) refl

-- ---- laws: what is asked of an element

module _ {t : List ℕ} {n x y i : ℕ} {s : Row} {w : List ℕ} (element : Element t n x y i w) (row_is : s ≡ row_of (rows_in t) i) where
  -- k is the row's one moment that makes available
  module _ {k : ℕ} (part : (k ≡ available_part s) × (k < 3)) where
    part_is : k ≡ cond (plain (row_of (rows_in t) i)) AFTER BEFORE
    unfolding available_part
    part_is = part.0 ∙ ap available_part row_is

    low : 3 * i + k < 3 * n
    low = omega (arith, part.1, element.row)

    pub shown_skip : (b v : ℕ) → v < n
        → (((mode_in t).chains or rel w HAPPENS MOMENTS (3 * i + k) (3 * v) or rel w HAPPENS MOMENTS (3 * i + k) (3 * v + 2)) and may_see (rows_in t) (row_of (rows_in t) y) v) ≡ false
        → shown_by (table_in t n) x y b i v ≡ false
    shown_skip b v l off =
        let e = available_of_lem (rows_in t) (places_in t) (mode_in t) n x y b i k s row_is part.0 in
        shown_off (rows_in t) (places_in t) (mode_in t) n x y b i v (row_of (rows_in t) y) _ _ refl
        (happens_is element.pair _ _ low (omega arith) refl ∙ ap (λ (m : ℕ). happens (table_in t n) m (3 * v)) e)
        (happens_is element.pair _ _ low (omega arith) refl ∙ ap (λ (m : ℕ). happens (table_in t n) m (3 * v + 2)) e) off

    pub seen_row : {m g : ℕ} {u : Row} {h d : Bool} (j : ℕ) → j < n → u ≡ row_of (rows_in t) j → (m ≡ visible_part u) × (m < 3)
        → h ≡ rel w HAPPENS MOMENTS (3 * i + k) (3 * j + m) → g ≡ widest s.scope u.scope → d ≡ meet_in (places_in t) g (row_of (rows_in t) x) (row_of (rows_in t) y) (row_of (rows_in t) i) (row_of (rows_in t) j)
        → seen (table_in t n) x y i j ≡ (h and d)
    unfolding seen decode availability_moment visibility_moment visible_part
    seen_row {m} j below_j other_is other before scope_is met =
        let c : m ≡ cond (plain (row_of (rows_in t) j)) BEFORE AFTER = other.0 ∙ ap visible_part other_is in
        rw (
          met,
          scope_is,
          row_is,
          other_is,
          happens_is element.pair (3 * i + k) (3 * j + m) low (omega (arith, below_j, other.1)) before,
          part_is,
          c,
        ) refl

    pub met_row_lem : {g : ℕ} {h d : Bool} → h ≡ rel w HAPPENS MOMENTS (3 * i + k) (3 * y + 1) → g ≡ widest s.scope DEVICE → d ≡ meet_in (places_in t) g (row_of (rows_in t) x) (row_of (rows_in t) y) (row_of (rows_in t) i) (row_of (rows_in t) y)
        → met_at_once (table_in t n) x y i ≡ (h and d)
    unfolding met_at_once decode availability_moment
    met_row_lem before scope_is met =
        rw (
          met,
          scope_is,
          row_is,
          happens_is element.pair (3 * i + k) (3 * y + 1) low (omega (arith, element.pair.second)) before,
          part_is,
        ) refl
