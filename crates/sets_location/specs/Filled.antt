-- Location order of the rows from one row on, while going up the page. Assumes nothing.
use Rattle.std.specs.Prelude.{◌≡◌, Bool, true, false, not, List, ℕ, ◌+◌, ◌-◌, ◌*◌, ◌≤◌, ◌<◌, ltb, leb, length, get_or, replicate}
use Rattle.std.proofs.Math.Path.{sym}
use Rattle.std.proofs.Common.{ap, subst, ◌∙◌, arith, add-one, lt-ltb, le-ltb, le-leb}
use Rattle.std.proofs.Math.Decide.{dec_lt, ℕ_discrete}
use Rattle.std.proofs.lemmas.List.{length-replicate, get_or-replicate}
use Rattle.std.proofs.lemmas.Bool.{lt-leb}
use Rattle.finite.specs.Logic.{◌and◌, split, and_true, and_on, and_false_left, and_false_right, not_both, not_so, not_out}
use Rattle.finite.specs.Below.{any_below, any_not}
use Rattle.model.specs.Limits.{LONGEST}
use Rattle.model.specs.Row.{access, plain}
use Rattle.model.specs.Table.{Table}
use Rattle.model.specs.Race
use Rattle.model.specs.Edge.{before_nth, before_some}
use Rattle.model_laws.specs.PairLaws.{common_out}
use Rattle.bits.specs.Bit.{bit, zeros, zeros_in, bit_zeros_in}
use Rattle.bits.specs.Within.{Within, within_refl, within_trans, within_widen, within_cleared}
use Rattle.work_area.specs.Regions.{LOCATION, LOCATION_END}
use Rattle.model_closing.specs.Tests.{or_off_left}
use Rattle.model_placing.specs.Elements.{avails, kept, kept_none, kept_skip}
use Rattle.model_placing.specs.Whole.{before_shared, shared_common}
use Rattle.sets_of_rows.specs.declared.Set.{Set}
use Rattle.sets_of_rows.specs.Member.{in_set}
use Rattle.sets_of_rows.specs.First.{none_in}
use Rattle.sets_of_rows.specs.Kept.{set_at, set_kept}
use Rattle.sets_of_rows.specs.Family.{nth}
use Rattle.sets_of_rows.specs.Rows.{Rows, rows_at, rows_cong, rows_less, rows_none, rows_in_lem}
use Rattle.sets_of_table.specs.Tested.{ACCESS, AVAILABLE}
use Rattle.sets_of_table.specs.Sorted.{PLAIN}
use Rattle.sets_of_table.specs.Known.{Opened, says_rows}
use Rattle.sets_grids.specs.Regions.{SOME, SOME_END}
use Rattle.sets_grids.specs.Given.{Given, given_few}
use Rattle.sets_grids.specs.Available.{makes}
use Rattle.sets_grids.specs.Location.{Locating, ToLocate, MadeLocation}
use Rattle.sets_location.specs.Adds.{AddsRow, place_of, Empty, Widely, Carried}
use Rattle.sets_location.specs.Put.{locate_kept}

-- ---- definitions

-- the rows from x on have their location order, those before it have none yet; what it is made from stands
pub record Filled (t : Table) (n x : ℕ) (s w u : List ℕ) : Type 0 where
  pub some : (i : ℕ) → i < n → Rows n (λ j. leb x i and before_some t i j) (nth u SOME i)
  pub pair : (i j k : ℕ) → i < n → j < n → k < LONGEST → bit u (place_of i j k) ≡ (leb x i and before_nth t i j k)
  pub frame : Within SOME LOCATION_END w u
  pub from : ToLocate t n s u

-- ---- laws: at the end of the page

none_at : (u : List ℕ) (at : ℕ) → get_or u at 0 ≡ 0 → get_or u (at + 1) 0 ≡ 0 → (j : ℕ) → in_set (set_at u at) j ≡ false
unfolding set_at
none_at u at e f j = none_in (set_at u at) e f j

zero_at_lem : (m k : ℕ) (a : List ℕ) → a ≡ replicate m 0 → k < m → get_or a k 0 ≡ 0
zero_at_lem m k a e l = ap (λ (b : List ℕ). get_or b k 0) e ∙ get_or-replicate m k 0 0 l

pub carried_none : {t : Table} {n : ℕ} {s made : List ℕ} → Opened t n s → made ≡ replicate 512 0 → (length made ≡ 512) × Carried t n n made
carried_none {t} {n} {s} {made} o e =
    (long, record { room = omega (arith, long); to = λ g q l m. rows_cong (λ i k. sym (off g q _)) (rows_none (empty (g * 8 + q) (omega arith))); by = λ g q l m. rows_cong (λ i k. sym (off g q _)) (rows_none (empty (g * 8 + 4 + q) (omega arith))) })
  where
    long : length made ≡ 512
    long = ap length e ∙ length-replicate {A = ℕ} 512 0

    empty : (k : ℕ) → k < 256 → (j : ℕ) → in_set (nth made 0 k) j ≡ false
    empty k l = none_at made (0 + 2 * k) (zero_at_lem 512 (0 + 2 * k) made e (omega arith)) (zero_at_lem 512 (0 + 2 * k + 1) made e (omega arith))

    off : (g q : ℕ) (z : ℕ → Bool) → kept t g q n z ≡ false
    off g q z = kept_none t g q n z (let r = o.rows in omega arith)

pub filled_begin : {t : Table} {n : ℕ} {s w u v : List ℕ} → Given t n s w → Locating t n w → u ≡ zeros w SOME (SOME_END - SOME)
    → v ≡ zeros u LOCATION (LOCATION_END - LOCATION) → Within SOME LOCATION_END w v × Filled t n n s v v
filled_begin {t} {n} {s} {w} {u} {v} g lc e f = (
  all,
  record {
    some = λ i l. rows_cong (λ j m. sym (and_false_left (leb n i) _ (lt-leb n i l))) (rows_none (empty i l));
    pair = λ i j k l m o.
        ap (λ (a : List ℕ). bit a (place_of i j k)) f
        ∙ bit_zeros_in u LOCATION (LOCATION_END - LOCATION) (place_of i j k) (omega (arith, long)) (omega arith) (omega (arith, given_few g))
        ∙ sym (and_false_left (leb n i) _ (lt-leb n i l));
    frame = within_refl SOME LOCATION_END v;
    from = locate_kept all (record { given = g; locating = lc });
  },
)
  where
    first : Within SOME SOME_END w u
    first = within_cleared SOME SOME_END (omega arith) e

    second : Within LOCATION LOCATION_END u v
    second = within_cleared LOCATION LOCATION_END (omega arith) f

    all : Within SOME LOCATION_END w v
    all = within_trans (within_widen SOME LOCATION_END (omega arith) (omega arith) first) (within_widen SOME LOCATION_END (omega arith) (omega arith) second)

    long : 8192 ≤ length u
    long = let r = g.room in let h = first.len in omega arith

    word : (k : ℕ) → SOME ≤ k → k < SOME_END → get_or u k 0 ≡ 0
    word k l m = ap (λ (a : List ℕ). get_or a k 0) e ∙ zeros_in w SOME (SOME_END - SOME) k (let r = g.room in omega arith) (omega arith) (omega arith)

    empty : (i : ℕ) → i < n → (j : ℕ) → in_set (nth v SOME i) j ≡ false
    empty i l j =
        let b = given_few g in
        ap (λ (a : Set). in_set a j) (set_kept (SOME + 2 * i) (λ h. omega arith) second)
        ∙ none_at u (SOME + 2 * i) (word (SOME + 2 * i) (omega arith) (omega arith)) (word (SOME + 2 * i + 1) (omega arith) (omega arith)) j

-- ---- laws: one row up

up_one : (x : ℕ) → 1 ≤ x → x ≡ x - 1 + 1
up_one x l = omega arith

pub filled_at : {t : Table} {n x : ℕ} {s w u : List ℕ} → 1 ≤ x → Filled t n x s w u → Filled t n (x - 1 + 1) s w u
filled_at {t} {n} {x} {s} {w} {u} l f = subst (λ (k : ℕ). Filled t n k s w u) (up_one x l) f

pub carried_at : {t : Table} {n x : ℕ} {made : List ℕ} → 1 ≤ x → Carried t n x made → Carried t n (x - 1 + 1) made
carried_at {t} {n} {x} {made} l c = subst (λ (k : ℕ). Carried t n k made) (up_one x l) c

pub filled_empty : {t : Table} {n x : ℕ} {s w u : List ℕ} → x < n → Filled t n (x + 1) s w u → Empty x u
filled_empty {t} {n} {x} l f j =
    (f.some x l).is j ∙ and_false_right (ltb j n) _ (and_false_left (leb (x + 1) x) _ (lt-leb (x + 1) x (omega arith)))

leb_up : (x i : ℕ) → (i ≡ x → ⊥) → leb (x + 1) i ≡ leb x i
leb_up x i d = go (dec_lt i x)
  where
    go : Dec (i < x) → leb (x + 1) i ≡ leb x i
    go (yes l) = lt-leb (x + 1) i (omega arith) ∙ sym (lt-leb x i l)
    go (no l) = le-leb (x + 1) i (omega (arith, d)) ∙ sym (le-leb x i (omega arith))

pub filled_placed : {t : Table} {n x : ℕ} {s w u v : List ℕ} → x < n → Filled t n (x + 1) s w u → AddsRow n x (before_nth t x) u v → Filled t n x s w v
unfolding before_some
filled_placed {t} {n} {x} {s} {w} {u} {v} l f a =
    record {
      some = λ i m. some_is i m (ℕ_discrete i x);
      pair = λ i j k m o p. pair_is i j k m o p (ℕ_discrete i x);
      frame = within_trans f.frame a.frame;
      from = locate_kept a.frame f.from;
    }
  where
    here : (j : ℕ) → Dec (j < n) → in_set (nth v SOME x) j ≡ (ltb j n and (leb x x and any_below LONGEST (before_nth t x j)))
    here j (yes m) =
        a.some j m ∙ or_off_left _ _ (filled_empty l f j)
        ∙ sym (and_on (ltb j n) _ (lt-ltb j n m) ∙ and_on (leb x x) _ (le-leb x x (omega arith)))
    here j (no m) = a.past j (omega arith) ∙ filled_empty l f j ∙ sym (and_false_left (ltb j n) _ (le-ltb j n (omega arith)))

    some_is : (i : ℕ) → i < n → Dec (i ≡ x) → Rows n (λ j. leb x i and any_below LONGEST (before_nth t i j)) (nth v SOME i)
    some_is i m (yes e) =
        subst (λ (k : ℕ). Rows n (λ j. leb x k and any_below LONGEST (before_nth t k j)) (nth v SOME k)) (sym e) (record { is = λ j. here j (dec_lt j n) })
    some_is i m (no e) =
        rows_cong (λ j k. ap (λ (b : Bool). b and any_below LONGEST (before_nth t i j)) (leb_up x i e))
        (rows_at (a.other_some i (let b = given_few f.from.given in omega arith) e) (f.some i m))

    pair_is : (i j k : ℕ) → i < n → j < n → k < LONGEST → Dec (i ≡ x) → bit v (place_of i j k) ≡ (leb x i and before_nth t i j k)
    pair_is i j k m o p (yes e) =
        subst (λ (h : ℕ). bit v (place_of h j k) ≡ (leb x h and before_nth t h j k)) (sym e)
        (a.pair j k o p ∙ or_off_left _ _ (f.pair x j k l o p ∙ and_false_left (leb (x + 1) x) _ (lt-leb (x + 1) x (omega arith)))
        ∙ sym (and_on (leb x x) _ (le-leb x x (omega arith))))
    pair_is i j k m o p (no e) =
        a.other_pair i j k m o p e ∙ f.pair i j k m o p ∙ ap (λ (b : Bool). b and before_nth t i j k) (leb_up x i e)

-- a row that is no access is ordered before none
none_before : (t : Table) (x y k : ℕ) → access (t.row x) ≡ false → before_nth t x y k ≡ false
unfolding before_nth
none_before t x y k e =
    not_so _ (λ h.
    not_both (common_out (t.row x) (t.row y) (Race.nth t x k) (shared_common t x y (Race.nth t x k) (before_shared t x y (Race.nth t x k) h))).0 e)

pub filled_skip : {t : Table} {n x : ℕ} {s w u : List ℕ} → access (t.row x) ≡ false → Filled t n (x + 1) s w u → Filled t n x s w u
unfolding before_some
filled_skip {t} {n} {x} {s} {w} {u} off f =
    record {
      some = λ i m. rows_cong (λ j k. same i (ℕ_discrete i x) (any_below LONGEST (before_nth t i j)) (λ e. none i j e)) (f.some i m);
      pair = λ i j k m o p. f.pair i j k m o p ∙ same i (ℕ_discrete i x) (before_nth t i j k) (λ e. one i j k e);
      frame = f.frame;
      from = f.from;
    }
  where
    one : (i j k : ℕ) → i ≡ x → before_nth t i j k ≡ false
    one i j k e = ap (λ (h : ℕ). before_nth t h j k) e ∙ none_before t x j k off

    none : (i j : ℕ) → i ≡ x → any_below LONGEST (before_nth t i j) ≡ false
    none i j e = any_not (before_nth t i j) LONGEST (λ k l. one i j k e)

    same : (i : ℕ) → Dec (i ≡ x) → (b : Bool) → (i ≡ x → b ≡ false) → (leb (x + 1) i and b) ≡ (leb x i and b)
    same i (yes e) b h = and_false_right (leb (x + 1) i) b (h e) ∙ sym (and_false_right (leb x i) b (h e))
    same i (no e) b h = ap (λ (c : Bool). c and b) (leb_up x i e)

-- after the test: r is what the row left
pub filled_taken : {t : Table} {n x : ℕ} {s w u v r : List ℕ} → r ≡ v → x < n → Filled t n (x + 1) s w u → AddsRow n x (before_nth t x) u v → Filled t n x s w r
filled_taken {t} {n} {x} {s} {w} e l f a = subst (λ (z : List ℕ). Filled t n x s w z) (sym e) (filled_placed l f a)

pub filled_left : {t : Table} {n x : ℕ} {s w u r : List ℕ} → r ≡ u → access (t.row x) ≡ false → Filled t n (x + 1) s w u → Filled t n x s w r
filled_left {t} {n} {x} {s} {w} e off f = subst (λ (z : List ℕ). Filled t n x s w z) (sym e) (filled_skip off f)

-- a row that is no atomic or barrier with an availability operation makes nothing available further up
pub carried_skip : {t : Table} {n x : ℕ} {made : List ℕ} → x < t.rows → (not (plain (t.row x)) and avails (t.row x)) ≡ false → Carried t n (x + 1) made → Carried t n x made
carried_skip {t} {n} {x} {made} l off c =
    record { room = c.room; to = λ g q k m. rows_cong (λ i o. up g q _) (c.to g q k m); by = λ g q k m. rows_cong (λ i o. up g q _) (c.by g q k m) }
  where
    up : (g q : ℕ) (z : ℕ → Bool) → kept t g q (x + 1) z ≡ kept t g q x z
    up g q z = ap (λ (m : ℕ). kept t g q m z) (add-one x) ∙ sym (kept_skip t g q x z l off)

-- ---- laws: what is asked of a row

module _ {t : Table} {n : ℕ} {s : List ℕ} (o : Opened t n s) (x : ℕ) (l : x < n) where
  pub access_is : (z : Set) (b c : Bool) → z ≡ set_at s ACCESS → b ≡ in_set z x → b ≡ c → access (t.row x) ≡ c
  access_is z b c e f g = sym (rows_in_lem (rows_at e (says_rows o.known.tested.accesses.access)) x l) ∙ sym f ∙ g

  wide_is : (vs ps z : Set) → vs ≡ set_at s AVAILABLE → ps ≡ set_at s PLAIN → ((j : ℕ) → in_set z j ≡ (in_set vs j and not (in_set ps j)))
      → in_set z x ≡ (avails (t.row x) and not (plain (t.row x)))
  wide_is vs ps z e f g = rows_in_lem (rows_less (rows_at e (says_rows o.known.tested.marked.available)) (rows_at f (says_rows o.known.sorted.plain)) g) x l

  pub widely : (vs ps z : Set) (b : Bool) → vs ≡ set_at s AVAILABLE → ps ≡ set_at s PLAIN → ((j : ℕ) → in_set z j ≡ (in_set vs j and not (in_set ps j)))
      → b ≡ in_set z x → b ≡ true → Widely t x
  unfolding makes
  widely vs ps z b e f g h i =
      let a = split (sym (wide_is vs ps z e f g) ∙ sym h ∙ i) in
      record { wide = not_out _ a.1; available = a.0 }

  pub carried_left : {made : List ℕ} (vs ps z : Set) (b : Bool) → vs ≡ set_at s AVAILABLE → ps ≡ set_at s PLAIN → ((j : ℕ) → in_set z j ≡ (in_set vs j and not (in_set ps j)))
      → b ≡ in_set z x → b ≡ false → Carried t n (x + 1) made → Carried t n x made
  carried_left vs ps z b e f g h i c =
      let a : (avails (t.row x) and not (plain (t.row x))) ≡ false = sym (wide_is vs ps z e f g) ∙ sym h ∙ i in
      carried_skip (let r = o.rows in omega arith) (not_so _ (λ d. let q = split d in not_both (and_true q.1 q.0) a)) c

-- ---- laws: all rows

pub filled_end : {t : Table} {n : ℕ} {s w v u : List ℕ} → Within SOME LOCATION_END w v → Filled t n 0 s v u → MadeLocation t n w u
filled_end {t} {n} all f =
    record {
      some = record { row = λ i l. rows_cong (λ j m. and_on (leb 0 i) (before_some t i j) (le-leb 0 i (omega arith))) (f.some i l) };
      location =
          record {
            fits = let b = given_few f.from.given in omega arith;
            cell = λ i j k l m o. f.pair i j k l m o ∙ and_on (leb 0 i) (before_nth t i j k) (le-leb 0 i (omega arith));
          };
      frame = within_trans all f.frame;
    }
