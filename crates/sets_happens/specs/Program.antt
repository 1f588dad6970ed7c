-- Program order between rows and operations, as sets of rows. Assumes nothing.
use Rattle.std.specs.Prelude.{◌≡◌, refl, Bool, true, false, List, ℕ, ◌+◌, ◌*◌, ◌≤◌, ◌<◌, ltb}
use Rattle.std.proofs.Math.Path.{sym, ap}
use Rattle.std.proofs.Common.{◌∙◌, arith, ltb-true, lt-ltb, leb-true, le-leb}
use Rattle.std.proofs.Math.Bool.{cond}
use Rattle.std.proofs.Math.Decide.{ℕ_discrete}
use Rattle.finite.specs.Logic.{◌and◌, bool_ext, not_both, or_off, and_false_left}
use Rattle.finite.specs.Below.{any_not}
use Rattle.model.specs.Limits.{ROWS, CLASS_SETS}
use Rattle.model.specs.Row.{plain}
use Rattle.model.specs.Table.{Table}
use Rattle.model.specs.Moment.{itself, availability, visibility, same_agent, program_order}
use Rattle.model.specs.Availability.{availability_moment, visibility_moment}
use Rattle.bits.specs.Within.{Within, within_refl, within_trans, within_widen}
use Rattle.model_closing.specs.Order.{later_row, from_row, order_at_at, order_available_at, order_available_visible, order_available_available, order_visible_visible}
use Rattle.model_placing.specs.Elements.{avails, shews, available_is, visible_is}
use Rattle.sets_of_rows.specs.declared.Set.{Set}
use Rattle.sets_of_rows.specs.Member.{in_set}
use Rattle.sets_of_rows.specs.Kept.{set_at, Stored}
use Rattle.sets_of_rows.specs.Family.{nth}
use Rattle.sets_of_rows.specs.Rows.{Rows, rows_at, rows_cong, rows_and}
use Rattle.sets_of_table.specs.Known.{Opened, says_rows}
use Rattle.sets_of_table.specs.Sorted.{PLAIN}
use Rattle.sets_of_table.specs.Tested.{AVAILABLE, VISIBLE}
use Rattle.sets_grids.specs.Regions.{HAPPENS, HAPPENS_END, AVAILABLE_AT, AVAILABLE_VISIBLE, AVAILABLE_AVAILABLE, VISIBLE_VISIBLE}
use Rattle.sets_grids.specs.Grid.{Grid, MadeGrid, grid_kept, grid_cong}
use Rattle.sets_grids.specs.Happens.{order_by, done_by}
use Rattle.sets_happens.specs.Adds.{none, MadeProgram}
use Rattle.sets_happens.specs.Adding.{Puts, puts_put, puts_cong, puts_after, puts_before}

-- ---- definitions

-- row j comes after the availability operation of row a
unfoldable pub behind : Table → ℕ → ℕ → Bool
behind t a j = cond (plain (t.row a)) (later_row t a j) (from_row t a j)

-- what is put for the operations of a row
unfoldable pub to_visible : Table → ℕ → ℕ → Bool
to_visible t a j = behind t a j and shews (t.row j)

unfoldable pub to_available : Table → ℕ → ℕ → Bool
to_available t a j = later_row t a j and avails (t.row j)

unfoldable pub visible_to : Table → ℕ → ℕ → Bool
visible_to t v j = later_row t v j and shews (t.row j)

pub record PutsAvailable (t : Table) (n a : ℕ) (w u : List ℕ) : Type 0 where
  pub rows : Puts AVAILABLE_AT a (λ j. ltb j n and behind t a j) w u
  pub visibles : Puts AVAILABLE_VISIBLE a (λ j. ltb j n and to_visible t a j) w u
  pub availables : Puts AVAILABLE_AVAILABLE a (λ j. ltb j n and to_available t a j) w u
  pub frame : Within AVAILABLE_AT VISIBLE_VISIBLE w u

-- program order from availability operations, between visibility operations
pub record MadeAvailables (t : Table) (n : ℕ) (w u : List ℕ) : Type 0 where
  pub rows : Grid AVAILABLE_AT n (λ a y. program_order t (availability_moment t a) (itself y)) u
  pub visibles : Grid AVAILABLE_VISIBLE n (λ a v. program_order t (availability_moment t a) (visibility_moment t v)) u
  pub availables : Grid AVAILABLE_AVAILABLE n (λ a b. program_order t (availability_moment t a) (availability_moment t b)) u
  pub frame : Within AVAILABLE_AT VISIBLE_VISIBLE w u

-- the first m rows of program order are put
pub record Ordering (t : Table) (n m : ℕ) (w u : List ℕ) : Type 0 where
  pub row : (i : ℕ) → i < m → Rows n (later_row t i) (nth u HAPPENS i)
  pub frame : Within HAPPENS AVAILABLE_AT w u

-- ---- laws: after an availability operation

pub behind_plain : (t : Table) (a : ℕ) {n : ℕ} {x : Set} → plain (t.row a) ≡ true → Rows n (later_row t a) x → Rows n (behind t a) x
unfolding behind
behind_plain t a e h = rows_cong (λ j l. ap (λ (b : Bool). cond b (later_row t a j) (from_row t a j)) (sym e)) h

pub behind_other : (t : Table) (a : ℕ) {n : ℕ} {x : Set} → plain (t.row a) ≡ false → Rows n (from_row t a) x → Rows n (behind t a) x
unfolding behind
behind_other t a e h = rows_cong (λ j l. ap (λ (b : Bool). cond b (later_row t a j) (from_row t a j)) (sym e)) h

-- ---- laws: program order by tests of rows

-- rows of different kinds differ
from_is : (t : Table) (x y : ℕ) (p : ℕ → Bool) → (b c : Bool) → p x ≡ b → p y ≡ c → (b ≡ c → ⊥) → from_row t x y ≡ later_row t x y
unfolding from_row later_row
from_is t x y p b c f g d = ap (λ (z : Bool). z and same_agent t x y) (bool_ext _ _ (λ e. go (leb-true x y e) (ℕ_discrete x y)) (λ e. let l = ltb-true x y e in le-leb x y (omega arith)))
  where
    go : x ≤ y → Dec (x ≡ y) → ltb x y ≡ true
    go l (yes q) = absurd (d (sym f ∙ ap p q ∙ g))
    go l (no q) = lt-ltb x y (omega arith)

true_false : true ≡ false → ⊥
true_false e = not_both {b = true} refl e

available_visible_lem : (t : Table) (x y : ℕ) → cond (plain (t.row x)) (later_row t x y) (cond (plain (t.row y)) (later_row t x y) (from_row t x y)) ≡ behind t x y
unfolding behind
available_visible_lem t x y = go (plain (t.row x)) (plain (t.row y)) refl refl
  where
    go : (b c : Bool) → plain (t.row x) ≡ b → plain (t.row y) ≡ c → cond b (later_row t x y) (cond c (later_row t x y) (from_row t x y)) ≡ cond b (later_row t x y) (from_row t x y)
    go true c f g = refl
    go false true f g = sym (from_is t x y (λ i. plain (t.row i)) false true f g (λ e. true_false (sym e)))
    go false false f g = refl

available_available_lem : (t : Table) (x y : ℕ) → cond (plain (t.row x)) (later_row t x y) (cond (plain (t.row y)) (from_row t x y) (later_row t x y)) ≡ later_row t x y
available_available_lem t x y = go (plain (t.row x)) (plain (t.row y)) refl refl
  where
    go : (b c : Bool) → plain (t.row x) ≡ b → plain (t.row y) ≡ c → cond b (later_row t x y) (cond c (from_row t x y) (later_row t x y)) ≡ later_row t x y
    go true c f g = refl
    go false true f g = from_is t x y (λ i. plain (t.row i)) false true f g (λ e. true_false (sym e))
    go false false f g = refl

visible_visible_lem : (t : Table) (x y : ℕ) → cond (plain (t.row x)) (cond (plain (t.row y)) (later_row t x y) (from_row t x y)) (later_row t x y) ≡ later_row t x y
visible_visible_lem t x y = go (plain (t.row x)) (plain (t.row y)) refl refl
  where
    go : (b c : Bool) → plain (t.row x) ≡ b → plain (t.row y) ≡ c → cond b (cond c (later_row t x y) (from_row t x y)) (later_row t x y) ≡ later_row t x y
    go false c f g = refl
    go true true f g = refl
    go true false f g = from_is t x y (λ i. plain (t.row i)) true false f g true_false

pub turned : (a b : Bool) → (a and b) ≡ (b and a)
unfolding ◌and◌
turned true true = refl
turned true false = refl
turned false true = refl
turned false false = refl

turned_three : (g a b : Bool) → (a and (g and b)) ≡ (g and a and b)
unfolding ◌and◌
turned_three true a b = refl
turned_three false true b = refl
turned_three false false b = refl

module _ (t : Table) {n : ℕ} (rows : t.rows ≡ n) (x y : ℕ) (here : x < n) (there : y < n) where
  own : x < t.rows
  own = omega (arith, rows, here)

  other : y < t.rows
  other = omega (arith, rows, there)

  pub rows_order : later_row t x y ≡ program_order t (itself x) (itself y)
  rows_order = sym (order_at_at t x y own other)

  pub available_rows_order : (avails (t.row x) and behind t x y) ≡ program_order t (availability_moment t x) (itself y)
  unfolding behind
  available_rows_order = turned _ _ ∙ ap (λ (b : Bool). cond (plain (t.row x)) (later_row t x y) (from_row t x y) and b) (sym (available_is t x)) ∙ sym (order_available_at t x y own other)

  pub available_visibles_order : (avails (t.row x) and to_visible t x y) ≡ program_order t (availability_moment t x) (visibility_moment t y)
  unfolding to_visible
  available_visibles_order =
      turned_three (behind t x y) (avails (t.row x)) (shews (t.row y))
      ∙ ap (λ (b : Bool). b and avails (t.row x) and shews (t.row y)) (sym (available_visible_lem t x y))
      ∙ ap (λ (b : Bool). cond (plain (t.row x)) (later_row t x y) (cond (plain (t.row y)) (later_row t x y) (from_row t x y)) and b and shews (t.row y)) (sym (available_is t x))
      ∙ ap (λ (b : Bool). cond (plain (t.row x)) (later_row t x y) (cond (plain (t.row y)) (later_row t x y) (from_row t x y)) and availability t (availability_moment t x) and b) (sym (visible_is t y))
      ∙ sym (order_available_visible t x y own other)

  pub availables_order : (avails (t.row x) and to_available t x y) ≡ program_order t (availability_moment t x) (availability_moment t y)
  unfolding to_available
  availables_order =
      turned_three (later_row t x y) (avails (t.row x)) (avails (t.row y))
      ∙ ap (λ (b : Bool). b and avails (t.row x) and avails (t.row y)) (sym (available_available_lem t x y))
      ∙ ap (λ (b : Bool). cond (plain (t.row x)) (later_row t x y) (cond (plain (t.row y)) (from_row t x y) (later_row t x y)) and b and avails (t.row y)) (sym (available_is t x))
      ∙ ap (λ (b : Bool). cond (plain (t.row x)) (later_row t x y) (cond (plain (t.row y)) (from_row t x y) (later_row t x y)) and availability t (availability_moment t x) and b) (sym (available_is t y))
      ∙ sym (order_available_available t x y own other)

  pub visibles_order : (shews (t.row x) and visible_to t x y) ≡ program_order t (visibility_moment t x) (visibility_moment t y)
  unfolding visible_to
  visibles_order =
      turned_three (later_row t x y) (shews (t.row x)) (shews (t.row y))
      ∙ ap (λ (b : Bool). b and shews (t.row x) and shews (t.row y)) (sym (visible_visible_lem t x y))
      ∙ ap (λ (b : Bool). cond (plain (t.row x)) (cond (plain (t.row y)) (later_row t x y) (from_row t x y)) (later_row t x y) and b and shews (t.row y)) (sym (visible_is t x))
      ∙ ap (λ (b : Bool). cond (plain (t.row x)) (cond (plain (t.row y)) (later_row t x y) (from_row t x y)) (later_row t x y) and visibility t (visibility_moment t x) and b) (sym (visible_is t y))
      ∙ sym (order_visible_visible t x y own other)

-- ---- laws: the sets of availability and visibility operations

pub available_set : {t : Table} {n : ℕ} {s : List ℕ} {x : Set} → Opened t n s → x ≡ set_at s AVAILABLE → Rows n (λ j. avails (t.row j)) x
available_set o e = rows_at e (says_rows o.known.tested.marked.available)

pub visible_set : {t : Table} {n : ℕ} {s : List ℕ} {x : Set} → Opened t n s → x ≡ set_at s VISIBLE → Rows n (λ j. shews (t.row j)) x
visible_set o e = rows_at e (says_rows o.known.tested.marked.visible)

pub plain_set : {t : Table} {n : ℕ} {s : List ℕ} {x : Set} → Opened t n s → x ≡ set_at s PLAIN → Rows n (λ j. plain (t.row j)) x
plain_set o e = rows_at e (says_rows o.known.sorted.plain)

pub to_visible_lem : (t : Table) (a : ℕ) {n : ℕ} {x y z : Set} → Rows n (behind t a) x → Rows n (λ j. shews (t.row j)) y
    → ((j : ℕ) → in_set z j ≡ (in_set x j and in_set y j)) → Rows n (to_visible t a) z
unfolding to_visible
to_visible_lem t a h g e = rows_and h g e

pub to_available_lem : (t : Table) (a : ℕ) {n : ℕ} {x y z : Set} → Rows n (later_row t a) x → Rows n (λ j. avails (t.row j)) y
    → ((j : ℕ) → in_set z j ≡ (in_set x j and in_set y j)) → Rows n (to_available t a) z
unfolding to_available
to_available_lem t a h g e = rows_and h g e

pub visible_to_lem : (t : Table) (a : ℕ) {n : ℕ} {x y z : Set} → Rows n (later_row t a) x → Rows n (λ j. shews (t.row j)) y
    → ((j : ℕ) → in_set z j ≡ (in_set x j and in_set y j)) → Rows n (visible_to t a) z
unfolding visible_to
visible_to_lem t a h g e = rows_and h g e

-- ---- laws: three puts

pub puts_three : {t : Table} {n a : ℕ} {w u v z : List ℕ} (x y q : Set) → a < ROWS → Rows n (behind t a) x → Rows n (to_visible t a) y → Rows n (to_available t a) q
    → Stored (AVAILABLE_AT + 2 * a) (in_set x) w u → Stored (AVAILABLE_VISIBLE + 2 * a) (in_set y) u v → Stored (AVAILABLE_AVAILABLE + 2 * a) (in_set q) v z
    → PutsAvailable t n a w z
puts_three {a = a} x y q l f g h d e k =
    record {
      rows = puts_after l (λ o. absurd (omega (arith, o, l))) k.frame (puts_after l (λ o. absurd (omega (arith, o, l))) e.frame (puts_cong f.is (puts_put {base = AVAILABLE_AT} x d)));
      visibles = puts_after l (λ o. absurd (omega (arith, o, l))) k.frame (puts_before (λ o. omega (arith, l)) d.frame (puts_cong g.is (puts_put {base = AVAILABLE_VISIBLE} y e)));
      availables = puts_before (λ o. omega (arith, l)) d.frame (puts_before (λ o. omega (arith, l)) e.frame (puts_cong h.is (puts_put {base = AVAILABLE_AVAILABLE} q k)));
      frame = within_trans (within_widen AVAILABLE_AT VISIBLE_VISIBLE (omega arith) (omega (arith, l)) d.frame)
          (within_trans (within_widen AVAILABLE_AT VISIBLE_VISIBLE (omega arith) (omega (arith, l)) e.frame) (within_widen AVAILABLE_AT VISIBLE_VISIBLE (omega arith) (omega (arith, l)) k.frame));
    }

-- ---- laws: rows, one after the other

pub ordering_begin : (t : Table) (n : ℕ) (w : List ℕ) → Ordering t n 0 w w
ordering_begin t n w = record { row = λ i l. absurd (omega arith); frame = within_refl HAPPENS AVAILABLE_AT w }

pub ordering_turn : {t : Table} {n i : ℕ} {w u v : List ℕ} (x : Set) → i < ROWS → Ordering t n i w u → Rows n (later_row t i) x → Stored (HAPPENS + 2 * i) (in_set x) u v
    → Ordering t n (i + 1) w v
ordering_turn {t} {n} {i} {w} {u} {v} x l inv h p =
    record { row = λ k m. go k m (ℕ_discrete k i); frame = within_trans inv.frame (within_widen HAPPENS AVAILABLE_AT (omega arith) (omega (arith, l)) p.frame) }
  where
    q : Puts HAPPENS i (in_set x) u v
    q = puts_put {base = HAPPENS} x p

    last : Rows n (later_row t i) (nth v HAPPENS i)
    last = record { is = λ j. p.is j ∙ h.is j }

    go : (k : ℕ) → k < i + 1 → Dec (k ≡ i) → Rows n (later_row t k) (nth v HAPPENS k)
    go k m (yes e) = rw e last
    go k m (no e) = rows_at (q.keep k (omega (arith, l)) e) (inv.row k (omega arith))

pub ordering_end : {t : Table} {n m : ℕ} {w u : List ℕ} → m ≡ n → Ordering t n m w u → MadeGrid HAPPENS AVAILABLE_AT HAPPENS n (later_row t) w u
ordering_end {n = n} e inv = record { grid = record { row = λ i l. inv.row i (omega arith) }; frame = inv.frame }

-- ---- laws: all of program order

order_none : (t : Table) (m k : ℕ) → program_order t m k ≡ order_by t none m k
unfolding order_by done_by none
order_none t m k = sym (or_off _ _ (any_not (done_by t none m k) CLASS_SETS (λ c l. and_false_left _ _ refl)))

pub program_made : {t : Table} {n : ℕ} {w u v z y : List ℕ} → t.rows ≡ n → n ≤ ROWS → Within HAPPENS HAPPENS_END w u
    → MadeGrid HAPPENS AVAILABLE_AT HAPPENS n (later_row t) u v → MadeAvailables t n v z
    → MadeGrid VISIBLE_VISIBLE HAPPENS_END VISIBLE_VISIBLE n (λ v u. program_order t (visibility_moment t v) (visibility_moment t u)) z y → MadeProgram t n w y
program_made {t} {n} rows few c a b d =
    record {
      order = record {
        rows = grid_cong (λ i j l m. rows_order t rows i j l m ∙ order_none t _ _)
            (grid_kept (λ o. absurd (omega (arith, o, few))) d.frame (grid_kept (λ o. absurd (omega (arith, o, few))) b.frame a.grid));
        available_rows_lem = grid_cong (λ i j l m. order_none t _ _) (grid_kept (λ o. absurd (omega (arith, o, few))) d.frame b.rows);
        available_visibles_lem = grid_cong (λ i j l m. order_none t _ _) (grid_kept (λ o. absurd (omega (arith, o, few))) d.frame b.visibles);
        availables = grid_cong (λ i j l m. order_none t _ _) (grid_kept (λ o. absurd (omega (arith, o, few))) d.frame b.availables);
        visibles = grid_cong (λ i j l m. order_none t _ _) d.grid;
      };
      frame = within_trans c (within_trans (within_widen HAPPENS HAPPENS_END (omega arith) (omega arith) a.frame)
          (within_trans (within_widen HAPPENS HAPPENS_END (omega arith) (omega arith) b.frame) (within_widen HAPPENS HAPPENS_END (omega arith) (omega arith) d.frame)));
    }
