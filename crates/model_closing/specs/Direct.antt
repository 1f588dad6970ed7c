-- The direct cases from a row's own moment, as tests of rows: which rows, availability moments and visibility moments it leads to at
-- once for a class set. For any table. Assumes nothing.
use Rattle.std.specs.Prelude.{◌≡◌, Bool, false, ◌⊎◌, ℕ, ◌+◌, ◌*◌, ◌%◌, ◌<◌, eqb, ltb}
use Rattle.std.proofs.Math.Path.{refl, ap, ap₂}
use Rattle.std.proofs.Common.{sym, ◌∙◌, inl, inr, arith}
use Rattle.std.proofs.Math.Bool.{true, not, cond}
use Rattle.std.proofs.Math.Decide.{ℕ_discrete}
use Rattle.std.proofs.lemmas.Nat.{and_comm}
use borrow.Author.Tests.{eq-eqb, ltb-true, lt-ltb, leb-true, le-leb}
use Rattle.finite.specs.Logic.{◌and◌, ◌or◌, which, bool_ext, not_both, not_out, split, and_true, and_on, and_false_left}
use Rattle.finite.specs.Logic.{and_false_right, or_none, or_off}
use Rattle.model.specs.declared.Row.{Row}
use Rattle.model.specs.Row.{plain, access, holds, meets, class_in, single}
use Rattle.model.specs.Table.{Table}
use Rattle.model.specs.Moment.{AT, row_in, part, itself, availability, visibility, classes_of, same_agent, program_order}
use Rattle.model.specs.Availability.{availability_moment, visibility_moment}
use Rattle.model.specs.Synchronizes.{synchronizes}
use Rattle.model.specs.Happens.{holding_of, concerns_of, holding, concerns, by_sync, to_release, from_acquire, by_system, step}
use Rattle.model_laws.specs.CaseLaws.{step_cases}
use Rattle.model_closing.specs.Order.{later_row, from_row, own_row, own_part, available_row, available_off, visible_row}
use Rattle.model_closing.specs.Tests.{or_off_left, or_four}
use Rattle.model_closing.specs.Order.{visible_off, order_at_at, order_at_available, order_at_visible}
use Rattle.model_closing.specs.Nodes.{holder, releaser, acquirer}

-- ---- definitions

-- row x takes part: it accesses a class in s, or holds all of s
unfoldable pub takes_part : Table → ℕ → ℕ → Bool
takes_part t s x = (access (t.row x) and class_in (t.row x) s) or holder t s x

-- row x performs an availability operation on a class in s, a visibility operation
unfoldable pub available_for : Table → ℕ → ℕ → Bool
available_for t s x = availability t (availability_moment t x) and meets (classes_of (t.row x)) s

unfoldable pub visible_for : Table → ℕ → ℕ → Bool
visible_for t s x = visibility t (visibility_moment t x) and meets (classes_of (t.row x)) s

-- the acquire rows that row h synchronizes-with for s
unfoldable pub meets_for : Table → ℕ → ℕ → ℕ → Bool
meets_for t s h j = acquirer t s j and synchronizes t h j

unfoldable pub direct_available : Table → ℕ → ℕ → ℕ → Bool
direct_available t s h a = acquirer t s h and (available_for t s a and later_row t h a)

unfoldable pub direct_visible : Table → ℕ → ℕ → ℕ → Bool
direct_visible t s h v = acquirer t s h and (visible_for t s v and cond (plain (t.row v)) (later_row t h v) (from_row t h v))

-- ---- laws: the classes of an operation

-- a plain row's is its class, another's are its classes
pub classes_plain : (r : Row) (s : ℕ) → plain r ≡ true → meets (classes_of r) s ≡ class_in r s
unfolding classes_of class_in meets
classes_plain r s e = rw e (ap (λ (z : ℕ). not (eqb z 0)) (and_comm (single r.class) s))

pub classes_wide : (r : Row) (s : ℕ) → plain r ≡ false → meets (classes_of r) s ≡ meets r.classes s
unfolding classes_of
classes_wide r s e = rw e refl

-- ---- laws: what a class set says of a row

module _ (t : Table) (s : ℕ) where
  pub holder_is : (x : ℕ) → holder t s x ≡ (not (plain (t.row x)) and holds (t.row x).classes s)
  unfolding holder holding holding_of
  holder_is x =
      rw (own_row x) (ap (λ (b : Bool). b and not (plain (t.row x)) and holds (t.row x).classes s) (eq-eqb ((3 * x + 1) % 3) 1 (own_part x))
      ∙ ap (λ (b : Bool). b and holds (t.row x).classes s) (and_on true (not (plain (t.row x))) refl))

  pub concerns_at : (x : ℕ) → concerns t s (itself x) ≡ takes_part t s x
  unfolding concerns concerns_of takes_part holder holding
  concerns_at x =
      ap (λ (b : Bool). cond b (access (t.row (row_in (itself x))) and class_in (t.row (row_in (itself x))) s) (meets (classes_of (t.row (row_in (itself x)))) s)
      or holding_of s (t.row (row_in (itself x))) (part (itself x))) (eq-eqb ((3 * x + 1) % 3) 1 (own_part x))
      ∙ ap (λ (y : ℕ). (access (t.row y) and class_in (t.row y) s) or holding_of s (t.row (row_in (itself x))) (part (itself x))) (own_row x)

  concerns_off : (m x : ℕ) → row_in m ≡ x → eqb (part m) AT ≡ false → concerns t s m ≡ meets (classes_of (t.row x)) s
  unfolding concerns concerns_of holding_of
  concerns_off m x e off =
      rw (e, off)
      (or_off _ _ (and_false_left _ _ (and_false_left _ _ refl)))

  pub concerns_available : (x : ℕ) → concerns t s (availability_moment t x) ≡ meets (classes_of (t.row x)) s
  concerns_available x = concerns_off (availability_moment t x) x (available_row t x) (available_off t x)

  pub concerns_visible : (x : ℕ) → concerns t s (visibility_moment t x) ≡ meets (classes_of (t.row x)) s
  concerns_visible x = concerns_off (visibility_moment t x) x (visible_row t x) (visible_off t x)

  -- only the row's own moment holds
  holding_off : (m : ℕ) → eqb (part m) AT ≡ false → holding t s m ≡ false
  unfolding holding holding_of
  holding_off m off = and_false_left _ _ (and_false_left _ _ off)

  pub sync_at : (h j : ℕ) → by_sync t s (itself h) (itself j) ≡ (holder t s h and holder t s j and synchronizes t h j)
  unfolding by_sync holder
  sync_at h j = rw (own_row h, own_row j) refl

  -- what it synchronizes-with acquires
  pub meets_is : (h j : ℕ) → by_sync t s (itself h) (itself j) ≡ (holder t s h and meets_for t s h j)
  unfolding meets_for acquirer synchronizes
  meets_is h j = sync_at h j ∙ bool_ext _ _
      (λ e. let a = split e in let b = split a.0 in and_true b.0 (and_true (and_true b.1 (split (split a.1).0).1) a.1))
      (λ e. let a = split e in let b = split a.1 in and_true (and_true a.0 (split b.0).0) b.1)

  -- ---- the direct cases from row h

  module _ (h : ℕ) (here : h < t.rows) where
    release_at : (j : ℕ) → j < t.rows → to_release t s (itself h) (itself j) ≡ (releaser t s j and takes_part t s h and later_row t h j)
    unfolding to_release releaser holder
    release_at j l = rw (order_at_at t h j here l, concerns_at h, own_row j) refl

    acquire_to : (m : ℕ) → from_acquire t s (itself h) m ≡ (acquirer t s h and concerns t s m and program_order t (itself h) m)
    unfolding from_acquire acquirer holder
    acquire_to m = rw (own_row h) refl

    system_at : (j : ℕ) → by_system t (itself h) (itself j) ≡ t.depends h j
    unfolding by_system
    system_at j =
        rw (own_row h, own_row j) (and_on _ _ (and_true (eq-eqb ((3 * h + 1) % 3) 1 (own_part h)) (eq-eqb ((3 * j + 1) % 3) 1 (own_part j))))

    -- to a row, with dependencies
    pub step_at_lem : (j : ℕ) → j < t.rows
        → step t s (itself h) (itself j)
        ≡ ((holder t s h and meets_for t s h j) or (releaser t s j and takes_part t s h and later_row t h j)
        or (acquirer t s h and takes_part t s j and later_row t h j) or t.depends h j)
    step_at_lem j l =
        step_cases t s (itself h) (itself j)
        ∙ or_four (meets_is h j) (release_at j l) (acquire_to (itself j) ∙ ap₂ (λ (a b : Bool). acquirer t s h and a and b) (concerns_at j) (order_at_at t h j here l))
        (system_at j)

    -- to a moment that is no row's own
    step_off : (m : ℕ) → eqb (part m) AT ≡ false → step t s (itself h) m ≡ (acquirer t s h and concerns t s m and program_order t (itself h) m)
    unfolding by_sync to_release by_system
    step_off m off =
        step_cases t s (itself h) m
        ∙ or_off _ _ (and_false_left _ _ (and_false_right _ _ off))
        ∙ or_off_left _ _ (or_none (and_false_left _ _ (and_false_right _ _ (holding_off m off)))
        (and_false_left _ _ (and_false_left _ _ (and_false_left _ _ (holding_off m off)))))
        ∙ acquire_to m

    -- an acquire row is not plain
    acquirer_kind : acquirer t s h ≡ true → plain (t.row h) ≡ false
    unfolding acquirer
    acquirer_kind e = not_out (plain (t.row h)) (split (sym (holder_is h) ∙ (split e).0)).0

    later_from : (y : ℕ) → later_row t h y ≡ true → from_row t h y ≡ true
    unfolding later_row from_row
    later_from y e = let a = split e in let l = ltb-true h y a.0 in and_true (le-leb h y (omega arith)) a.1

    from_later : (y : ℕ) → acquirer t s h ≡ true → plain (t.row y) ≡ true → from_row t h y ≡ true → later_row t h y ≡ true
    unfolding later_row from_row
    from_later y n p e = go (ℕ_discrete h y)
      where
        go : Dec (h ≡ y) → (ltb h y and same_agent t h y) ≡ true
        go (yes d) = not_both p (rw (← d) (acquirer_kind n))
        go (no d) = let a = split e in let l = leb-true h y a.0 in and_true (lt-ltb h y (omega arith)) a.1

    pub direct_available_lem : (a : ℕ) → a < t.rows → step t s (itself h) (availability_moment t a) ≡ direct_available t s h a
    unfolding direct_available available_for
    direct_available_lem a l =
        step_off (availability_moment t a) (available_off t a)
        ∙ ap₂ (λ (b c : Bool). acquirer t s h and b and c) (concerns_available a) (order_at_available t h a here l)
        ∙ bool_ext _ _ (λ e. let u = split e in let v = split u.0 in let w = split u.1 in forth v.0 v.1 w.0 w.1 (which (plain (t.row a)))) back
      where
        forth : acquirer t s h ≡ true → meets (classes_of (t.row a)) s ≡ true → cond (plain (t.row a)) (from_row t h a) (later_row t h a) ≡ true
            → availability t (availability_moment t a) ≡ true → (plain (t.row a) ≡ true) ⊎ (plain (t.row a) ≡ false)
            → (acquirer t s h and (availability t (availability_moment t a) and meets (classes_of (t.row a)) s and later_row t h a)) ≡ true
        forth n c o v (inl p) = and_true n (and_true (and_true v c) (from_later a n p (rw p at o)))
        forth n c o v (inr p) = and_true n (and_true (and_true v c) (rw p at o))

        place : later_row t h a ≡ true → (plain (t.row a) ≡ true) ⊎ (plain (t.row a) ≡ false)
            → cond (plain (t.row a)) (from_row t h a) (later_row t h a) ≡ true
        place o (inl p) = rw p (later_from a o)
        place o (inr p) = rw p o

        back : (acquirer t s h and (availability t (availability_moment t a) and meets (classes_of (t.row a)) s and later_row t h a)) ≡ true
            → (acquirer t s h and meets (classes_of (t.row a)) s and (cond (plain (t.row a)) (from_row t h a) (later_row t h a) and availability t (availability_moment t a))) ≡ true
        back e =
            let u = split e in
            let v = split u.1 in
            let w = split v.0 in
            and_true (and_true u.0 w.1) (and_true (place v.1 (which (plain (t.row a)))) w.0)

    pub direct_visible_lem : (v : ℕ) → v < t.rows → step t s (itself h) (visibility_moment t v) ≡ direct_visible t s h v
    unfolding direct_visible visible_for
    direct_visible_lem v l =
        step_off (visibility_moment t v) (visible_off t v)
        ∙ ap₂ (λ (b c : Bool). acquirer t s h and b and c) (concerns_visible v) (order_at_visible t h v here l)
        ∙ bool_ext _ _
        (λ e. let u = split e in let x = split u.0 in let w = split u.1 in and_true x.0 (and_true (and_true w.1 x.1) w.0))
        (λ e. let u = split e in let x = split u.1 in let w = split x.0 in and_true (and_true u.0 w.1) (and_true x.1 w.0))
