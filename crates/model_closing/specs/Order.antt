-- Program order between the moments that an engine over rows asks for, as tests of rows. For any table. Assumes nothing.
use Rattle.std.specs.Prelude.{◌≡◌, Bool, not, ℕ, ◌+◌, ◌*◌, ◌/◌, ◌%◌, ◌≤◌, ◌<◌, leb, eqb}
use Rattle.std.proofs.Math.Path.{refl}
use Rattle.std.proofs.Common.{ap, ◌∙◌, arith, eq-eqb, ltb-true, lt-ltb, leb-true, le-leb}
use Rattle.std.proofs.Math.Bool.{true, false, cond}
use Rattle.std.proofs.Math.Dec.{ltb}
use Rattle.finite.specs.Logic.{◌and◌, bool_ext, split, and_true, and_on, and_on_right, and_false_right, or_left, or_none, or_off}
use Rattle.model.specs.declared.Row.{Row}
use Rattle.model.specs.Row.{plain, makes_available, makes_visible}
use Rattle.model.specs.Scope.{INVOCATION}
use Rattle.model.specs.Table.{Table}
use Rattle.model.specs.Moment.{BEFORE, AT, AFTER, row_in, part, itself, availability_of, visibility_of, moment_of, moment_in, program_ordered}
use Rattle.model.specs.Moment.{availability, visibility, moment, same_agent, program_order}
use Rattle.model.specs.Availability.{availability_moment, visibility_moment}
use Rattle.model_closing.specs.Tests.{or_off_left}

-- ---- definitions

-- row x is program-ordered before row y
unfoldable pub later_row : Table → ℕ → ℕ → Bool
later_row t x y = ltb x y and same_agent t x y

-- row x is y, or program-ordered before it
unfoldable pub from_row : Table → ℕ → ℕ → Bool
from_row t x y = leb x y and same_agent t x y

-- ---- laws: the parts of program order

pub order_parts : (t : Table) (m k : ℕ) → program_order t m k ≡ true
    → (m < k) × (same_agent t (row_in m) (row_in k) ≡ true) × (moment t m ≡ true) × (moment t k ≡ true)
unfolding program_order program_ordered same_agent moment
order_parts t m k e =
    let a = split e in
    let b = split a.0 in
    let c = split b.0 in
    (ltb-true m k c.0, c.1, b.1, a.1)

-- ---- laws: the moments of a row

pub own_row : (x : ℕ) → row_in (itself x) ≡ x
own_row x = omega arith

pub own_part : (x : ℕ) → part (itself x) ≡ AT
own_part x = omega arith

late_row : (b : Bool) (x : ℕ) → (3 * x + cond b AFTER BEFORE) / 3 ≡ x
late_row true x = omega arith
late_row false x = omega arith

late_part : (b : Bool) (x : ℕ) → (3 * x + cond b AFTER BEFORE) % 3 ≡ cond b AFTER BEFORE
late_part true x = omega arith
late_part false x = omega arith

early_row : (b : Bool) (x : ℕ) → (3 * x + cond b BEFORE AFTER) / 3 ≡ x
early_row true x = omega arith
early_row false x = omega arith

early_part : (b : Bool) (x : ℕ) → (3 * x + cond b BEFORE AFTER) % 3 ≡ cond b BEFORE AFTER
early_part true x = omega arith
early_part false x = omega arith

pub available_row : (t : Table) (x : ℕ) → row_in (availability_moment t x) ≡ x
unfolding availability_moment
available_row t x = late_row (plain (t.row x)) x

pub available_part_lem : (t : Table) (x : ℕ) → part (availability_moment t x) ≡ cond (plain (t.row x)) AFTER BEFORE
unfolding availability_moment
available_part_lem t x = late_part (plain (t.row x)) x

pub visible_row : (t : Table) (x : ℕ) → row_in (visibility_moment t x) ≡ x
unfolding visibility_moment
visible_row t x = early_row (plain (t.row x)) x

pub visible_part_lem : (t : Table) (x : ℕ) → part (visibility_moment t x) ≡ cond (plain (t.row x)) BEFORE AFTER
unfolding visibility_moment
visible_part_lem t x = early_part (plain (t.row x)) x

-- neither is the row's own
late_off : (b : Bool) → eqb (cond b AFTER BEFORE) AT ≡ false
late_off true = refl
late_off false = refl

early_off : (b : Bool) → eqb (cond b BEFORE AFTER) AT ≡ false
early_off true = refl
early_off false = refl

pub available_off : (t : Table) (x : ℕ) → eqb (part (availability_moment t x)) AT ≡ false
available_off t x = ap (λ (k : ℕ). eqb k AT) (available_part_lem t x) ∙ late_off (plain (t.row x))

pub visible_off : (t : Table) (x : ℕ) → eqb (part (visibility_moment t x)) AT ≡ false
visible_off t x = ap (λ (k : ℕ). eqb k AT) (visible_part_lem t x) ∙ early_off (plain (t.row x))

-- ---- laws: which of them there are

pub own_moment : (t : Table) (x : ℕ) → x < t.rows → moment t (itself x) ≡ true
unfolding moment moment_in moment_of
own_moment t x l =
    let o = own_row x in
    and_true (lt-ltb ((3 * x + 1) / 3) t.rows (omega arith)) (or_left _ (or_left _ (eq-eqb ((3 * x + 1) % 3) 1 (own_part x))))

late_early : (b : Bool) → eqb (cond b AFTER BEFORE) (cond b BEFORE AFTER) ≡ false
late_early true = refl
late_early false = refl

early_late : (b : Bool) → eqb (cond b BEFORE AFTER) (cond b AFTER BEFORE) ≡ false
early_late true = refl
early_late false = refl

late_is : (r : Row) → moment_of r (cond (plain r) AFTER BEFORE) ≡ availability_of r (cond (plain r) AFTER BEFORE)
unfolding moment_of availability_of visibility_of
late_is r =
    rw (late_off (plain r), late_early (plain r))
    (or_off _ _ (and_false_right (makes_visible r and not (eqb r.scope INVOCATION)) false refl) ∙ or_off_left _ _ refl)

early_is : (r : Row) → moment_of r (cond (plain r) BEFORE AFTER) ≡ visibility_of r (cond (plain r) BEFORE AFTER)
unfolding moment_of availability_of visibility_of
early_is r =
    rw (early_off (plain r), early_late (plain r))
    (or_off_left _ _ (or_none refl (and_false_right (makes_available r and not (eqb r.scope INVOCATION)) false refl)))

pub available_moment : (t : Table) (x : ℕ) → x < t.rows → moment t (availability_moment t x) ≡ availability t (availability_moment t x)
unfolding moment moment_in availability
available_moment t x l =
    rw (available_row t x, available_part_lem t x)
    (and_on (ltb x t.rows) (moment_of (t.row x) (cond (plain (t.row x)) AFTER BEFORE)) (lt-ltb x t.rows l) ∙ late_is (t.row x))

pub visible_moment : (t : Table) (x : ℕ) → x < t.rows → moment t (visibility_moment t x) ≡ visibility t (visibility_moment t x)
unfolding moment moment_in visibility
visible_moment t x l =
    rw (visible_row t x, visible_part_lem t x)
    (and_on (ltb x t.rows) (moment_of (t.row x) (cond (plain (t.row x)) BEFORE AFTER)) (lt-ltb x t.rows l) ∙ early_is (t.row x))

-- ---- laws: program order between them

order_test : (t : Table) (m k x y : ℕ) (p q d : Bool) → row_in m ≡ x → row_in k ≡ y → moment t m ≡ p → moment t k ≡ q → ltb m k ≡ d
    → program_order t m k ≡ (d and same_agent t x y and p and q)
unfolding program_order program_ordered same_agent moment
order_test t m k x y p q d e f g h i = rw (← e, ← f, ← g, ← h, ← i) refl

lt_is : (m k x y : ℕ) → (m < k → x < y) → (x < y → m < k) → ltb m k ≡ ltb x y
lt_is m k x y f g = bool_ext _ _ (λ e. lt-ltb x y (f (ltb-true m k e))) (λ e. lt-ltb m k (g (ltb-true x y e)))

le_is : (m k x y : ℕ) → (m < k → x ≤ y) → (x ≤ y → m < k) → ltb m k ≡ leb x y
le_is m k x y f g = bool_ext _ _ (λ e. le-leb x y (f (ltb-true m k e))) (λ e. lt-ltb m k (g (leb-true x y e)))

module _ (t : Table) (x y : ℕ) (here : x < t.rows) (there : y < t.rows) where
  pub order_at_at : program_order t (itself x) (itself y) ≡ later_row t x y
  unfolding later_row
  order_at_at =
      order_test t (itself x) (itself y) x y true true (ltb x y) (own_row x) (own_row y) (own_moment t x here) (own_moment t y there)
      (lt_is (itself x) (itself y) x y (λ l. omega arith) (λ l. omega arith))
      ∙ and_on_right _ true refl ∙ and_on_right _ true refl

  place_at_available : ltb (itself x) (availability_moment t y) ≡ cond (plain (t.row y)) (leb x y) (ltb x y)
  unfolding availability_moment
  place_at_available = go (plain (t.row y))
    where
      go : (b : Bool) → ltb (3 * x + 1) (3 * y + cond b AFTER BEFORE) ≡ cond b (leb x y) (ltb x y)
      go true = le_is (3 * x + 1) (3 * y + 2) x y (λ l. omega arith) (λ l. omega arith)
      go false = lt_is (3 * x + 1) (3 * y + 0) x y (λ l. omega arith) (λ l. omega arith)

  agent_at_available : (cond (plain (t.row y)) (leb x y) (ltb x y) and same_agent t x y) ≡ cond (plain (t.row y)) (from_row t x y) (later_row t x y)
  unfolding later_row from_row
  agent_at_available = go (plain (t.row y))
    where
      go : (b : Bool) → (cond b (leb x y) (ltb x y) and same_agent t x y) ≡ cond b (leb x y and same_agent t x y) (ltb x y and same_agent t x y)
      go true = refl
      go false = refl

  pub order_at_available : program_order t (itself x) (availability_moment t y) ≡ (cond (plain (t.row y)) (from_row t x y) (later_row t x y) and availability t (availability_moment t y))
  order_at_available =
      order_test t (itself x) (availability_moment t y) x y true (availability t (availability_moment t y)) (cond (plain (t.row y)) (leb x y) (ltb x y))
      (own_row x) (available_row t y) (own_moment t x here) (available_moment t y there) place_at_available
      ∙ ap (λ (b : Bool). b and availability t (availability_moment t y)) (and_on_right _ true refl ∙ agent_at_available)

  place_at_visible : ltb (itself x) (visibility_moment t y) ≡ cond (plain (t.row y)) (ltb x y) (leb x y)
  unfolding visibility_moment
  place_at_visible = go (plain (t.row y))
    where
      go : (b : Bool) → ltb (3 * x + 1) (3 * y + cond b BEFORE AFTER) ≡ cond b (ltb x y) (leb x y)
      go true = lt_is (3 * x + 1) (3 * y + 0) x y (λ l. omega arith) (λ l. omega arith)
      go false = le_is (3 * x + 1) (3 * y + 2) x y (λ l. omega arith) (λ l. omega arith)

  agent_at_visible : (cond (plain (t.row y)) (ltb x y) (leb x y) and same_agent t x y) ≡ cond (plain (t.row y)) (later_row t x y) (from_row t x y)
  unfolding later_row from_row
  agent_at_visible = go (plain (t.row y))
    where
      go : (b : Bool) → (cond b (ltb x y) (leb x y) and same_agent t x y) ≡ cond b (ltb x y and same_agent t x y) (leb x y and same_agent t x y)
      go true = refl
      go false = refl

  pub order_at_visible : program_order t (itself x) (visibility_moment t y) ≡ (cond (plain (t.row y)) (later_row t x y) (from_row t x y) and visibility t (visibility_moment t y))
  order_at_visible =
      order_test t (itself x) (visibility_moment t y) x y true (visibility t (visibility_moment t y)) (cond (plain (t.row y)) (ltb x y) (leb x y))
      (own_row x) (visible_row t y) (own_moment t x here) (visible_moment t y there) place_at_visible
      ∙ ap (λ (b : Bool). b and visibility t (visibility_moment t y)) (and_on_right _ true refl ∙ agent_at_visible)

  place_available_at : ltb (availability_moment t x) (itself y) ≡ cond (plain (t.row x)) (ltb x y) (leb x y)
  unfolding availability_moment
  place_available_at = go (plain (t.row x))
    where
      go : (b : Bool) → ltb (3 * x + cond b AFTER BEFORE) (3 * y + 1) ≡ cond b (ltb x y) (leb x y)
      go true = lt_is (3 * x + 2) (3 * y + 1) x y (λ l. omega arith) (λ l. omega arith)
      go false = le_is (3 * x + 0) (3 * y + 1) x y (λ l. omega arith) (λ l. omega arith)

  agent_available_at : (cond (plain (t.row x)) (ltb x y) (leb x y) and same_agent t x y) ≡ cond (plain (t.row x)) (later_row t x y) (from_row t x y)
  unfolding later_row from_row
  agent_available_at = go (plain (t.row x))
    where
      go : (b : Bool) → (cond b (ltb x y) (leb x y) and same_agent t x y) ≡ cond b (ltb x y and same_agent t x y) (leb x y and same_agent t x y)
      go true = refl
      go false = refl

  pub order_available_at : program_order t (availability_moment t x) (itself y) ≡ (cond (plain (t.row x)) (later_row t x y) (from_row t x y) and availability t (availability_moment t x))
  order_available_at =
      order_test t (availability_moment t x) (itself y) x y (availability t (availability_moment t x)) true (cond (plain (t.row x)) (ltb x y) (leb x y))
      (available_row t x) (own_row y) (available_moment t x here) (own_moment t y there) place_available_at
      ∙ and_on_right _ true refl ∙ ap (λ (b : Bool). b and availability t (availability_moment t x)) agent_available_at

  place_visible_at : ltb (visibility_moment t x) (itself y) ≡ cond (plain (t.row x)) (leb x y) (ltb x y)
  unfolding visibility_moment
  place_visible_at = go (plain (t.row x))
    where
      go : (b : Bool) → ltb (3 * x + cond b BEFORE AFTER) (3 * y + 1) ≡ cond b (leb x y) (ltb x y)
      go true = le_is (3 * x + 0) (3 * y + 1) x y (λ l. omega arith) (λ l. omega arith)
      go false = lt_is (3 * x + 2) (3 * y + 1) x y (λ l. omega arith) (λ l. omega arith)

  agent_visible_at : (cond (plain (t.row x)) (leb x y) (ltb x y) and same_agent t x y) ≡ cond (plain (t.row x)) (from_row t x y) (later_row t x y)
  unfolding later_row from_row
  agent_visible_at = go (plain (t.row x))
    where
      go : (b : Bool) → (cond b (leb x y) (ltb x y) and same_agent t x y) ≡ cond b (leb x y and same_agent t x y) (ltb x y and same_agent t x y)
      go true = refl
      go false = refl

  pub order_visible_at : program_order t (visibility_moment t x) (itself y) ≡ (cond (plain (t.row x)) (from_row t x y) (later_row t x y) and visibility t (visibility_moment t x))
  order_visible_at =
      order_test t (visibility_moment t x) (itself y) x y (visibility t (visibility_moment t x)) true (cond (plain (t.row x)) (leb x y) (ltb x y))
      (visible_row t x) (own_row y) (visible_moment t x here) (own_moment t y there) place_visible_at
      ∙ and_on_right _ true refl ∙ ap (λ (b : Bool). b and visibility t (visibility_moment t x)) agent_visible_at

  place_available_visible : ltb (availability_moment t x) (visibility_moment t y) ≡ cond (plain (t.row x)) (ltb x y) (cond (plain (t.row y)) (ltb x y) (leb x y))
  unfolding availability_moment visibility_moment
  place_available_visible = go (plain (t.row x)) (plain (t.row y))
    where
      go : (b c : Bool) → ltb (3 * x + cond b AFTER BEFORE) (3 * y + cond c BEFORE AFTER) ≡ cond b (ltb x y) (cond c (ltb x y) (leb x y))
      go true true = lt_is (3 * x + 2) (3 * y + 0) x y (λ l. omega arith) (λ l. omega arith)
      go true false = lt_is (3 * x + 2) (3 * y + 2) x y (λ l. omega arith) (λ l. omega arith)
      go false true = lt_is (3 * x + 0) (3 * y + 0) x y (λ l. omega arith) (λ l. omega arith)
      go false false = le_is (3 * x + 0) (3 * y + 2) x y (λ l. omega arith) (λ l. omega arith)

  agent_available_visible : (cond (plain (t.row x)) (ltb x y) (cond (plain (t.row y)) (ltb x y) (leb x y)) and same_agent t x y) ≡ cond (plain (t.row x)) (later_row t x y) (cond (plain (t.row y)) (later_row t x y) (from_row t x y))
  unfolding later_row from_row
  agent_available_visible = go (plain (t.row x)) (plain (t.row y))
    where
      go : (b c : Bool) → (cond b (ltb x y) (cond c (ltb x y) (leb x y)) and same_agent t x y) ≡ cond b (ltb x y and same_agent t x y) (cond c (ltb x y and same_agent t x y) (leb x y and same_agent t x y))
      go true true = refl
      go true false = refl
      go false true = refl
      go false false = refl

  pub order_available_visible : program_order t (availability_moment t x) (visibility_moment t y) ≡ (cond (plain (t.row x)) (later_row t x y) (cond (plain (t.row y)) (later_row t x y) (from_row t x y)) and availability t (availability_moment t x) and visibility t (visibility_moment t y))
  order_available_visible =
      order_test t (availability_moment t x) (visibility_moment t y) x y (availability t (availability_moment t x)) (visibility t (visibility_moment t y)) (cond (plain (t.row x)) (ltb x y) (cond (plain (t.row y)) (ltb x y) (leb x y)))
      (available_row t x) (visible_row t y) (available_moment t x here) (visible_moment t y there) place_available_visible
      ∙ ap (λ (b : Bool). b and availability t (availability_moment t x) and visibility t (visibility_moment t y)) agent_available_visible

  place_available_available : ltb (availability_moment t x) (availability_moment t y) ≡ cond (plain (t.row x)) (ltb x y) (cond (plain (t.row y)) (leb x y) (ltb x y))
  unfolding availability_moment
  place_available_available = go (plain (t.row x)) (plain (t.row y))
    where
      go : (b c : Bool) → ltb (3 * x + cond b AFTER BEFORE) (3 * y + cond c AFTER BEFORE) ≡ cond b (ltb x y) (cond c (leb x y) (ltb x y))
      go true true = lt_is (3 * x + 2) (3 * y + 2) x y (λ l. omega arith) (λ l. omega arith)
      go true false = lt_is (3 * x + 2) (3 * y + 0) x y (λ l. omega arith) (λ l. omega arith)
      go false true = le_is (3 * x + 0) (3 * y + 2) x y (λ l. omega arith) (λ l. omega arith)
      go false false = lt_is (3 * x + 0) (3 * y + 0) x y (λ l. omega arith) (λ l. omega arith)

  agent_available_available : (cond (plain (t.row x)) (ltb x y) (cond (plain (t.row y)) (leb x y) (ltb x y)) and same_agent t x y) ≡ cond (plain (t.row x)) (later_row t x y) (cond (plain (t.row y)) (from_row t x y) (later_row t x y))
  unfolding later_row from_row
  agent_available_available = go (plain (t.row x)) (plain (t.row y))
    where
      go : (b c : Bool) → (cond b (ltb x y) (cond c (leb x y) (ltb x y)) and same_agent t x y) ≡ cond b (ltb x y and same_agent t x y) (cond c (leb x y and same_agent t x y) (ltb x y and same_agent t x y))
      go true true = refl
      go true false = refl
      go false true = refl
      go false false = refl

  pub order_available_available : program_order t (availability_moment t x) (availability_moment t y) ≡ (cond (plain (t.row x)) (later_row t x y) (cond (plain (t.row y)) (from_row t x y) (later_row t x y)) and availability t (availability_moment t x) and availability t (availability_moment t y))
  order_available_available =
      order_test t (availability_moment t x) (availability_moment t y) x y (availability t (availability_moment t x)) (availability t (availability_moment t y)) (cond (plain (t.row x)) (ltb x y) (cond (plain (t.row y)) (leb x y) (ltb x y)))
      (available_row t x) (available_row t y) (available_moment t x here) (available_moment t y there) place_available_available
      ∙ ap (λ (b : Bool). b and availability t (availability_moment t x) and availability t (availability_moment t y)) agent_available_available

  place_visible_visible : ltb (visibility_moment t x) (visibility_moment t y) ≡ cond (plain (t.row x)) (cond (plain (t.row y)) (ltb x y) (leb x y)) (ltb x y)
  unfolding visibility_moment
  place_visible_visible = go (plain (t.row x)) (plain (t.row y))
    where
      go : (b c : Bool) → ltb (3 * x + cond b BEFORE AFTER) (3 * y + cond c BEFORE AFTER) ≡ cond b (cond c (ltb x y) (leb x y)) (ltb x y)
      go true true = lt_is (3 * x + 0) (3 * y + 0) x y (λ l. omega arith) (λ l. omega arith)
      go true false = le_is (3 * x + 0) (3 * y + 2) x y (λ l. omega arith) (λ l. omega arith)
      go false true = lt_is (3 * x + 2) (3 * y + 0) x y (λ l. omega arith) (λ l. omega arith)
      go false false = lt_is (3 * x + 2) (3 * y + 2) x y (λ l. omega arith) (λ l. omega arith)

  agent_visible_visible : (cond (plain (t.row x)) (cond (plain (t.row y)) (ltb x y) (leb x y)) (ltb x y) and same_agent t x y) ≡ cond (plain (t.row x)) (cond (plain (t.row y)) (later_row t x y) (from_row t x y)) (later_row t x y)
  unfolding later_row from_row
  agent_visible_visible = go (plain (t.row x)) (plain (t.row y))
    where
      go : (b c : Bool) → (cond b (cond c (ltb x y) (leb x y)) (ltb x y) and same_agent t x y) ≡ cond b (cond c (ltb x y and same_agent t x y) (leb x y and same_agent t x y)) (ltb x y and same_agent t x y)
      go true true = refl
      go true false = refl
      go false true = refl
      go false false = refl

  pub order_visible_visible : program_order t (visibility_moment t x) (visibility_moment t y) ≡ (cond (plain (t.row x)) (cond (plain (t.row y)) (later_row t x y) (from_row t x y)) (later_row t x y) and visibility t (visibility_moment t x) and visibility t (visibility_moment t y))
  order_visible_visible =
      order_test t (visibility_moment t x) (visibility_moment t y) x y (visibility t (visibility_moment t x)) (visibility t (visibility_moment t y)) (cond (plain (t.row x)) (cond (plain (t.row y)) (ltb x y) (leb x y)) (ltb x y))
      (visible_row t x) (visible_row t y) (visible_moment t x here) (visible_moment t y there) place_visible_visible
      ∙ ap (λ (b : Bool). b and visibility t (visibility_moment t x) and visibility t (visibility_moment t y)) agent_visible_visible
