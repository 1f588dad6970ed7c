-- Inter-thread order from the nodes of a class set: three sets for each, of rows, visibility operations and availability operations, by a
-- search from each node. Assumes nothing.
use Rattle.std.specs.Prelude.{◌≡◌, refl, Bool, not, cond, List, ◌⊎◌, ℕ, zero, suc, ◌+◌, ◌-◌, ◌*◌, ◌≤◌, ◌<◌, eqb, ltb}
use Rattle.std.proofs.Math.Path.{sym, ap, ap₂}
use Rattle.std.proofs.Common.{subst, ◌∙◌, inl, inr, eqb-true, eq-eqb, ne_eqb, ltb-true, lt-ltb, leb-true, le-leb}
use Rattle.std.proofs.Math.Bool.{true, false}
use Rattle.std.proofs.Math.Logic.{⊎_elim}
use native.Mathlib.Omega.{arith}
use Rattle.std.proofs.Math.Decide.{ℕ_discrete}
use Rattle.finite.specs.Logic.{◌and◌, ◌or◌, which, bool_ext, split, and_true, and_false_left, and_false_right, or_cases, or_left, or_right, or_false, not_both, not_so, not_in, not_out}
use Rattle.finite.specs.Below.{any_below, any_off}
use Rattle.finite.specs.Count.{one, count_below}
use Rattle.model.specs.Limits.{ROWS}
use Rattle.model.specs.Row.{plain, releases}
use Rattle.model.specs.Moment.{itself}
use Rattle.model.specs.Synchronizes.{synchronizes}
use Rattle.model.specs.Happens.{step, inter_thread}
use Rattle.model.specs.Availability.{availability_moment, visibility_moment}
use Rattle.model.specs.Table.{Table}
use Rattle.bits.specs.Within.{Within, within_refl, within_trans, within_widen}
use Rattle.work_area.specs.Regions.{SYNC}
use Rattle.model_closing.specs.Order.{later_row, from_row}
use Rattle.model_closing.specs.Nodes.{holder, releaser, acquirer, node, Way, last, next, node_way, inter_one, inter_trans}
use Rattle.model_closing.specs.Direct.{takes_part, available_for, visible_for, meets_for, direct_available, direct_visible, holder_is, step_at_lem, direct_available_lem, direct_visible_lem}
use Rattle.model_closing.specs.Sets.{reached_at, reached_available, reached_visible}
use Rattle.sets_of_rows.specs.declared.Set.{Set}
use Rattle.sets_of_rows.specs.Member.{in_set}
use Rattle.sets_of_rows.specs.First.{First, first_next, Rest}
use Rattle.sets_of_rows.specs.First
use Rattle.sets_of_rows.specs.Kept.{set_at, set_kept, Stored, joined}
use Rattle.sets_of_rows.specs.Family.{nth}
use Rattle.sets_of_rows.specs.Rows.{Rows, rows_in_lem, rows_cong, rows_and, rows_or, rows_if}
use Rattle.sets_of_rows.specs.Walk.{Walk, walk_begin, walk_turn, walk_end}
use Rattle.sets_grids.specs.Regions.{DEPENDS, REACH_AT, REACH_END}
use Rattle.sets_grids.specs.Grid.{Grid, grid_at, grid_kept}
use Rattle.sets_grids.specs.Given.{given_few}
use Rattle.sets_grids.specs.Filling.{member_in}
use Rattle.sets_grids.specs.declared.Concerned.{Concerned}
use Rattle.sets_grids.specs.Concerns.{Told, Concerns}
use Rattle.sets_grids.specs.Reach.{Asks, MadeReach}

-- ---- definitions

-- the three grids: of rows 0, of visibility operations 1, of availability operations 2
abbrev pub grid : ℕ → ℕ
grid k = REACH_AT + 256 * k

unfoldable pub sort_at : Table → ℕ → ℕ → ℕ
sort_at t zero j = itself j
sort_at t (suc zero) j = visibility_moment t j
sort_at t (suc (suc k)) j = availability_moment t j

-- what row h leads to at once, and at all
unfoldable pub own_of : Table → ℕ → ℕ → ℕ → ℕ → Bool
own_of t c k h j = step t c (itself h) (sort_at t k j)

unfoldable pub reach_of : Table → ℕ → ℕ → ℕ → ℕ → Bool
reach_of t c k h j = inter_thread t c (itself h) (sort_at t k j)

-- what a class set is asked by, beside a table's sets
pub record Asking (t : Table) (n c : ℕ) (ends : Set) (k : Concerned) (w : List ℕ) : Type 0 where
  pub rows : t.rows ≡ n
  pub few : n ≤ ROWS
  pub told : Told t n ends
  pub concerns : Concerns t n c ends k
  pub syncs : Grid SYNC n (synchronizes t) w
  pub depends : Grid DEPENDS n t.depends w

-- row h's three sets are f's
pub record Has (n h : ℕ) (f : ℕ → ℕ → Bool) (w : List ℕ) : Type 0 where
  pub is : (k j : ℕ) → k < 3 → in_set (nth w (grid k) h) j ≡ (ltb j n and f k j)

-- no other row's changed, and nothing else
pub record Kept (h : ℕ) (w u : List ℕ) : Type 0 where
  pub keep : (k x : ℕ) → k < 3 → x < ROWS → (x ≡ h → ⊥) → nth u (grid k) x ≡ nth w (grid k) x
  pub frame : Within REACH_AT REACH_END w u

pub record PutDirect (t : Table) (n : ℕ) (k : Concerned) (h : ℕ) (w u : List ℕ) : Type 0 where
  pub own : (c : ℕ) (ends : Set) → Asking t n c ends k w → Has n h (λ i j. own_of t c i h j) u
  pub kept : Kept h w u

pub record Took (h j : ℕ) (w u : List ℕ) : Type 0 where
  pub is : (k x : ℕ) → k < 3 → in_set (nth u (grid k) h) x ≡ (in_set (nth w (grid k) h) x or in_set (nth w (grid k) j) x)
  pub kept : Kept h w u

-- x is in row h's set of sort k
abbrev pub held : List ℕ → ℕ → ℕ → ℕ → Bool
held w k h x = in_set (nth w (grid k) h) x

-- row h has what row y leads to at once
pub record Owns (t : Table) (n c y h : ℕ) (w : List ℕ) : Type 0 where
  pub is : (k x : ℕ) → k < 3 → x < n → own_of t c k y x ≡ true → held w k h x ≡ true

-- row h has what it leads to at once, and nothing that it doesn't reach
pub record Part (t : Table) (n c h : ℕ) (w : List ℕ) : Type 0 where
  pub own : Owns t n c h h w
  pub sound : (k x : ℕ) → k < 3 → held w k h x ≡ true → (x < n) × (reach_of t c k h x ≡ true)

-- the nodes of a class set: each has a part, those that don't wait all that they reach
pub record Partly (t : Table) (n c : ℕ) (ends nodes waiting : Set) (w : List ℕ) : Type 0 where
  pub rows : t.rows ≡ n
  pub few : n ≤ ROWS
  pub told : (a b : ℕ) → t.depends a b ≡ true → (in_set ends a ≡ true) × (in_set ends b ≡ true)
  pub members : Rows n (node t (in_set ends) c) nodes
  pub sub : (j : ℕ) → in_set waiting j ≡ true → in_set nodes j ≡ true
  pub part : (j : ℕ) → in_set nodes j ≡ true → Part t n c j w
  pub done : (j : ℕ) → in_set nodes j ≡ true → in_set waiting j ≡ false → Has n j (λ i x. reach_of t c i j x) w

pub record PutsAll (t : Table) (n : ℕ) (k : Concerned) (w u : List ℕ) : Type 0 where
  pub own : (c : ℕ) (ends : Set) → Asking t n c ends k w → Partly t n c ends k.nodes k.nodes u
  pub frame : Within REACH_AT REACH_END w u

pub record Searches (h : ℕ) (nodes waiting : Set) (w u : List ℕ) : Type 0 where
  pub all : (t : Table) (n c : ℕ) (ends : Set) → Partly t n c ends nodes waiting w → in_set waiting h ≡ true → Has n h (λ i x. reach_of t c i h x) u
  pub kept : Kept h w u

pub record Closes (n : ℕ) (nodes : Set) (w u : List ℕ) : Type 0 where
  pub to : (t : Table) (c : ℕ) (ends : Set) → Partly t n c ends nodes nodes w → (j : ℕ) → j < n → node t (in_set ends) c j ≡ true → Has n j (λ i x. reach_of t c i j x) u
  pub frame : Within REACH_AT REACH_END w u

-- the i-th of n rows, from the last where `down`
abbrev pub turn_of : ℕ → Bool → ℕ → ℕ
turn_of n down i = cond down (n - 1 - i) i

-- the invariants: of the nodes that row h reaches those that are left aren't seen, and it has what those that are seen lead to at once
pub record Seeing (h : ℕ) (nodes waiting : Set) (w : List ℕ) (left seen : Set) (u : List ℕ) : Type 0 where
  pub ahead : (y : ℕ) → in_set left y ≡ (held u 0 h y and in_set nodes y and not (in_set seen y))
  pub all : (t : Table) (n c : ℕ) (ends : Set) → Partly t n c ends nodes waiting w → in_set waiting h ≡ true
      → Part t n c h u × ((y : ℕ) → in_set seen y ≡ true → in_set nodes y ≡ true → Owns t n c y h u)
  pub kept : Kept h w u

-- and i rows have had their turn
pub record Closing (n : ℕ) (nodes : Set) (down : Bool) (w : List ℕ) (i : ℕ) (waiting : Set) (u : List ℕ) : Type 0 where
  pub gone : (j : ℕ) → j < n → turn_of n down j < i → in_set waiting j ≡ false
  pub to : (t : Table) (c : ℕ) (ends : Set) → Partly t n c ends nodes nodes w → Partly t n c ends nodes waiting u
  pub frame : Within REACH_AT REACH_END w u

-- ---- laws: a change elsewhere

pub asking_kept : {t : Table} {n c : ℕ} {ends : Set} {k : Concerned} {w u : List ℕ} → Within REACH_AT REACH_END w u → Asking t n c ends k w → Asking t n c ends k u
asking_kept f a =
    let l = a.few in
    record {
      rows = a.rows;
      few = a.few;
      told = a.told;
      concerns = a.concerns;
      syncs = grid_kept (λ o. absurd (omega arith)) f a.syncs;
      depends = grid_kept (λ o. absurd (omega arith)) f a.depends;
    }

pub has_kept : {n h x : ℕ} {f : ℕ → ℕ → Bool} {w u : List ℕ} → x < ROWS → (x ≡ h → ⊥) → Kept h w u → Has n x f w → Has n x f u
has_kept {x = x} l d k p = record { is = λ i j m. ap (λ (z : Set). in_set z j) (k.keep i x m l d) ∙ p.is i j m }

pub kept_none : (h : ℕ) (w : List ℕ) → Kept h w w
kept_none h w = record { keep = λ k x l m d. refl; frame = within_refl REACH_AT REACH_END w }

pub kept_more : {h : ℕ} {w u v : List ℕ} → Kept h w u → Kept h u v → Kept h w v
kept_more a b = record { keep = λ k x l m d. b.keep k x l m d ∙ a.keep k x l m d; frame = within_trans a.frame b.frame }

-- ---- laws: three stores in row h

module _ (h : ℕ) (l : h < ROWS) {w a b u : List ℕ} {p q r : ℕ → Bool} (x : Stored (REACH_AT + 2 * h) p w a) (y : Stored (REACH_AT + 256 + 2 * h) q a b)
    (z : Stored (REACH_AT + 512 + 2 * h) r b u) where
  pub three_kept : Kept h w u
  three_kept = record { keep = keep; frame = within_trans (within_trans (wide x.frame) (wide' y.frame)) (wide'' z.frame) }
    where
      wide : {w u : List ℕ} → Within (REACH_AT + 2 * h) (REACH_AT + 2 * h + 2) w u → Within REACH_AT REACH_END w u
      wide f = within_widen REACH_AT REACH_END (omega arith) (omega (arith, l)) f

      wide' : {w u : List ℕ} → Within (REACH_AT + 256 + 2 * h) (REACH_AT + 256 + 2 * h + 2) w u → Within REACH_AT REACH_END w u
      wide' f = within_widen REACH_AT REACH_END (omega arith) (omega (arith, l)) f

      wide'' : {w u : List ℕ} → Within (REACH_AT + 512 + 2 * h) (REACH_AT + 512 + 2 * h + 2) w u → Within REACH_AT REACH_END w u
      wide'' f = within_widen REACH_AT REACH_END (omega arith) (omega (arith, l)) f

      keep : (k i : ℕ) → k < 3 → i < ROWS → (i ≡ h → ⊥) → nth u (grid k) i ≡ nth w (grid k) i
      keep k i m o d =
          set_kept (grid k + 2 * i) (λ g. omega (arith, d, l)) z.frame ∙ set_kept (grid k + 2 * i) (λ g. omega (arith, d, l)) y.frame
          ∙ set_kept (grid k + 2 * i) (λ g. omega (arith, d, l)) x.frame

  pub three_at : (j : ℕ) → in_set (nth u (grid 0) h) j ≡ p j
  three_at j =
      ap (λ (s : Set). in_set s j) (set_kept (REACH_AT + 2 * h) (λ g. omega (arith, l)) z.frame ∙ set_kept (REACH_AT + 2 * h) (λ g. omega (arith, l)) y.frame) ∙ x.is j

  pub three_visible : (j : ℕ) → in_set (nth u (grid 1) h) j ≡ q j
  three_visible j = ap (λ (s : Set). in_set s j) (set_kept (REACH_AT + 256 + 2 * h) (λ g. omega (arith, l)) z.frame) ∙ y.is j

  pub three_available : (j : ℕ) → in_set (nth u (grid 2) h) j ≡ r j
  three_available j = z.is j

  -- by the number of the grid
  pub three_is : (f : ℕ → ℕ → Bool) → ((j : ℕ) → p j ≡ f 0 j) → ((j : ℕ) → q j ≡ f 1 j) → ((j : ℕ) → r j ≡ f 2 j) → (k j : ℕ) → k < 3 → in_set (nth u (grid k) h) j ≡ f k j
  three_is f e g i zero j m = three_at j ∙ e j
  three_is f e g i (suc zero) j m = three_visible j ∙ g j
  three_is f e g i (suc (suc zero)) j m = three_available j ∙ i j
  three_is f e g i (suc (suc (suc k))) j m = absurd (omega arith)

-- ---- laws: direct cases

swap : (a b : Bool) → (a and b) ≡ (b and a)
unfolding ◌and◌
swap true true = refl
swap true false = refl
swap false true = refl
swap false false = refl

acquirer_holds : (t : Table) (c h : ℕ) → acquirer t c h ≡ true → holder t c h ≡ true
unfolding acquirer
acquirer_holds t c h e = (split e).0

from_later : (t : Table) (h j : ℕ) → from_row t h j ≡ true → (h ≡ j → ⊥) → later_row t h j ≡ true
unfolding from_row later_row
from_later t h j e d = let a = split e in let l = leb-true h j a.0 in and_true (lt-ltb h j (omega (arith, d))) a.1

later_from : (t : Table) (h j : ℕ) → later_row t h j ≡ true → from_row t h j ≡ true
unfolding from_row later_row
later_from t h j e = let a = split e in let l = ltb-true h j a.0 in and_true (le-leb h j (omega arith)) a.1

module _ {t : Table} {n c : ℕ} {ends : Set} {k : Concerned} {w : List ℕ} (q : Asking t n c ends k w) (h : ℕ) (l : h < n) where
  there : h < t.rows
  there = let e = q.rows in omega arith

  step_in : (j : ℕ) → j < n
      → (((releaser t c h and (synchronizes t h j and acquirer t c j)) or (takes_part t c h and (later_row t h j and releaser t c j)))
      or ((acquirer t c h and (later_row t h j and takes_part t c j)) or t.depends h j)) ≡ step t c (itself h) (itself j)
  unfolding meets_for releaser synchronizes
  step_in j m = bool_ext _ _ out back ∙ sym (step_at_lem t c h there j (let e = q.rows in omega arith))
    where
      out : (((releaser t c h and (synchronizes t h j and acquirer t c j)) or (takes_part t c h and (later_row t h j and releaser t c j)))
          or ((acquirer t c h and (later_row t h j and takes_part t c j)) or t.depends h j)) ≡ true
          → ((holder t c h and meets_for t c h j) or (releaser t c j and takes_part t c h and later_row t h j) or (acquirer t c h and takes_part t c j and later_row t h j) or t.depends h j) ≡ true
      out e =
          ⊎_elim
          (λ a. ⊎_elim
          (λ b. let v = split b in let x = split v.1 in or_left _ (or_left _ (or_left _ (and_true (split v.0).0 (and_true x.1 x.0)))))
          (λ b. let v = split b in let x = split v.1 in or_left _ (or_left _ (or_right _ (and_true (and_true x.1 v.0) x.0))))
          (or_cases _ _ a))
          (λ a. ⊎_elim
          (λ b. let v = split b in let x = split v.1 in or_left _ (or_right _ (and_true (and_true v.0 x.1) x.0)))
          (λ b. or_right _ b) (or_cases _ _ a)) (or_cases _ _ e)

      back : ((holder t c h and meets_for t c h j) or (releaser t c j and takes_part t c h and later_row t h j) or (acquirer t c h and takes_part t c j and later_row t h j) or t.depends h j) ≡ true
          → (((releaser t c h and (synchronizes t h j and acquirer t c j)) or (takes_part t c h and (later_row t h j and releaser t c j)))
          or ((acquirer t c h and (later_row t h j and takes_part t c j)) or t.depends h j)) ≡ true
      back e =
          ⊎_elim
          (λ a. ⊎_elim
          (λ b. ⊎_elim
          (λ d. let v = split d in let x = split v.1 in or_left _ (or_left _ (and_true (and_true v.0 (split (split x.1).0).0) (and_true x.1 x.0))))
          (λ d. let v = split d in let x = split v.0 in or_left _ (or_right _ (and_true x.1 (and_true v.1 x.0))))
          (or_cases _ _ b))
          (λ b. let v = split b in let x = split v.0 in or_right _ (or_left _ (and_true x.0 (and_true v.1 x.1))))
          (or_cases _ _ a))
          (λ a. or_right _ (or_right _ a)) (or_cases _ _ e)

  pub direct_rows : (after g sa sync ra releases ta taking d x y z : Set) (b₁ b₂ b₃ : Bool) → Rows n (later_row t h) after → b₁ ≡ in_set k.releases h
      → g ≡ set_at w (SYNC + 2 * h) → ((j : ℕ) → in_set sa j ≡ (in_set g j and in_set k.acquires j)) → ((j : ℕ) → in_set sync j ≡ (b₁ and in_set sa j))
      → b₂ ≡ in_set k.at h → ((j : ℕ) → in_set ra j ≡ (in_set after j and in_set k.releases j)) → ((j : ℕ) → in_set releases j ≡ (b₂ and in_set ra j))
      → b₃ ≡ in_set k.acquires h → ((j : ℕ) → in_set ta j ≡ (in_set after j and in_set k.at j)) → ((j : ℕ) → in_set taking j ≡ (b₃ and in_set ta j))
      → ((j : ℕ) → in_set x j ≡ (in_set sync j or in_set releases j)) → d ≡ set_at w (DEPENDS + 2 * h) → ((j : ℕ) → in_set y j ≡ (in_set taking j or in_set d j))
      → ((j : ℕ) → in_set z j ≡ (in_set x j or in_set y j)) → Rows n (own_of t c 0 h) z
  unfolding own_of sort_at
  direct_rows after g sa sync ra releases ta taking d x y z b₁ b₂ b₃ ea e1 eg esa es e2 era er e3 eta et ex ed ey ez =
      rows_cong
      (λ j m.
      ap₂ (λ (a b : Bool). ((a and (synchronizes t h j and acquirer t c j)) or (b and (later_row t h j and releaser t c j))) or ((b₃ and (later_row t h j and takes_part t c j)) or t.depends h j))
      (e1 ∙ rows_in_lem q.concerns.releases h l) (e2 ∙ rows_in_lem q.concerns.at h l)
      ∙ ap (λ (a : Bool). ((releaser t c h and (synchronizes t h j and acquirer t c j)) or (takes_part t c h and (later_row t h j and releaser t c j))) or ((a and (later_row t h j and takes_part t c j)) or t.depends h j))
      (e3 ∙ rows_in_lem q.concerns.acquires h l)
      ∙ step_in j m)
      (rows_or
      (rows_or (rows_if b₁ (rows_and (grid_at q.syncs l eg) q.concerns.acquires esa) es) (rows_if b₂ (rows_and ea q.concerns.releases era) er) ex)
      (rows_or (rows_if b₃ (rows_and ea q.concerns.at eta) et) (grid_at q.depends l ed) ey) ez)

  available_in : (j : ℕ) → j < n → (acquirer t c h and (later_row t h j and available_for t c j)) ≡ step t c (itself h) (availability_moment t j)
  unfolding direct_available
  available_in j m =
      ap (λ (a : Bool). acquirer t c h and a) (swap (later_row t h j) (available_for t c j)) ∙ sym (direct_available_lem t c h there j (let e = q.rows in omega arith))

  visible_in : (j : ℕ) → j < n → (acquirer t c h and (from_row t h j and visible_for t c j)) ≡ step t c (itself h) (visibility_moment t j)
  unfolding direct_visible
  visible_in j m = bool_ext _ _ out back ∙ sym (direct_visible_lem t c h there j (let e = q.rows in omega arith))
    where
      wide : acquirer t c h ≡ true → plain (t.row h) ≡ false
      wide e = not_out (plain (t.row h)) (split (sym (holder_is t c h) ∙ acquirer_holds t c h e)).0

      place : acquirer t c h ≡ true → from_row t h j ≡ true → (plain (t.row j) ≡ true) ⊎ (plain (t.row j) ≡ false) → cond (plain (t.row j)) (later_row t h j) (from_row t h j) ≡ true
      place a e (inl p) = ap (λ (b : Bool). cond b (later_row t h j) (from_row t h j)) p ∙ from_later t h j e (λ d. not_both p (ap (λ (i : ℕ). plain (t.row i)) (sym d) ∙ wide a))
      place a e (inr p) = ap (λ (b : Bool). cond b (later_row t h j) (from_row t h j)) p ∙ e

      from : cond (plain (t.row j)) (later_row t h j) (from_row t h j) ≡ true → (plain (t.row j) ≡ true) ⊎ (plain (t.row j) ≡ false) → from_row t h j ≡ true
      from e (inl p) = later_from t h j (sym (ap (λ (b : Bool). cond b (later_row t h j) (from_row t h j)) p) ∙ e)
      from e (inr p) = sym (ap (λ (b : Bool). cond b (later_row t h j) (from_row t h j)) p) ∙ e

      out : (acquirer t c h and (from_row t h j and visible_for t c j)) ≡ true → (acquirer t c h and (visible_for t c j and cond (plain (t.row j)) (later_row t h j) (from_row t h j))) ≡ true
      out e = let a = split e in let b = split a.1 in and_true a.0 (and_true b.1 (place a.0 b.0 (which (plain (t.row j)))))

      back : (acquirer t c h and (visible_for t c j and cond (plain (t.row j)) (later_row t h j) (from_row t h j))) ≡ true → (acquirer t c h and (from_row t h j and visible_for t c j)) ≡ true
      back e = let a = split e in let b = split a.1 in and_true a.0 (and_true (from b.1 (which (plain (t.row j)))) b.0)

  pub own_rows : (onward after va vis aa ava : Set) (b : Bool) → b ≡ in_set k.acquires h → Rows n (from_row t h) onward → Rows n (later_row t h) after
      → ((j : ℕ) → in_set va j ≡ (in_set onward j and in_set k.visible j)) → ((j : ℕ) → in_set vis j ≡ (b and in_set va j))
      → ((j : ℕ) → in_set aa j ≡ (in_set after j and in_set k.available j)) → ((j : ℕ) → in_set ava j ≡ (b and in_set aa j))
      → Rows n (own_of t c 1 h) vis × Rows n (own_of t c 2 h) ava
  unfolding own_of sort_at
  own_rows onward after va vis aa ava b e eo ea ev ei eaa eav = (
    rows_cong (λ j m. ap (λ (a : Bool). a and (from_row t h j and visible_for t c j)) (e ∙ rows_in_lem q.concerns.acquires h l) ∙ visible_in j m)
        (rows_if b (rows_and eo q.concerns.visible ev) ei),
    rows_cong (λ j m. ap (λ (a : Bool). a and (later_row t h j and available_for t c j)) (e ∙ rows_in_lem q.concerns.acquires h l) ∙ available_in j m)
        (rows_if b (rows_and ea q.concerns.available eaa) eav),
  )

pub put_direct_is : {t : Table} {n : ℕ} {k : Concerned} {w a b u : List ℕ} (h : ℕ) (to vis ava : Set) → h < ROWS
    → ((c : ℕ) (ends : Set) → Asking t n c ends k w → Rows n (own_of t c 0 h) to) → ((c : ℕ) (ends : Set) → Asking t n c ends k w → Rows n (own_of t c 1 h) vis × Rows n (own_of t c 2 h) ava)
    → Stored (REACH_AT + 2 * h) (in_set to) w a → Stored (REACH_AT + 256 + 2 * h) (in_set vis) a b → Stored (REACH_AT + 512 + 2 * h) (in_set ava) b u → PutDirect t n k h w u
put_direct_is {t} {n} h to vis ava l f g x y z =
    record {
      own = λ c ends q. record { is = three_is h l x y z (λ i j. ltb j n and own_of t c i h j) (f c ends q).is (g c ends q).0.is (g c ends q).1.is };
      kept = three_kept h l x y z;
    }

-- ---- laws: one row takes in another

pub took_is : {w a b u : List ℕ} (h j : ℕ) (to vis ava : Set) → h < ROWS → to ≡ set_at w (REACH_AT + 2 * j) → vis ≡ set_at w (REACH_AT + 256 + 2 * j) → ava ≡ set_at w (REACH_AT + 512 + 2 * j)
    → Stored (REACH_AT + 2 * h) (joined w (REACH_AT + 2 * h) to) w a → Stored (REACH_AT + 256 + 2 * h) (joined a (REACH_AT + 256 + 2 * h) vis) a b
    → Stored (REACH_AT + 512 + 2 * h) (joined b (REACH_AT + 512 + 2 * h) ava) b u → Took h j w u
unfolding joined
took_is {w} {a} {b} {u} h j to vis ava l e f g x y z =
    record {
      is = three_is h l x y z (λ k i. in_set (nth w (grid k) h) i or in_set (nth w (grid k) j) i) (λ i. ap (λ (s : Set). in_set (set_at w (REACH_AT + 2 * h)) i or in_set s i) e)
          (λ i. ap₂ (λ (r s : Set). in_set r i or in_set s i) (set_kept (REACH_AT + 256 + 2 * h) (λ o. omega (arith, l)) x.frame) f)
          (λ i.
          ap₂ (λ (r s : Set). in_set r i or in_set s i)
          (set_kept (REACH_AT + 512 + 2 * h) (λ o. omega (arith, l)) y.frame ∙ set_kept (REACH_AT + 512 + 2 * h) (λ o. omega (arith, l)) x.frame) g);
      kept = three_kept h l x y z;
    }

-- ---- laws: what a node leads to, and what that reaches

reach_own : (t : Table) (c k h j : ℕ) → own_of t c k h j ≡ true → reach_of t c k h j ≡ true
unfolding own_of reach_of
reach_own t c k h j e = inter_one t c (itself h) (sort_at t k j) e

reach_more : (t : Table) (c k h y j : ℕ) → y < t.rows → reach_of t c 0 h y ≡ true → reach_of t c k y j ≡ true → reach_of t c k h j ≡ true
unfolding reach_of sort_at
reach_more t c k h y j l e f = inter_trans t c (itself h) (itself y) (sort_at t k j) (omega arith) e f

-- ---- laws: a part

part_own : {t : Table} {n c j : ℕ} {w : List ℕ} → Has n j (λ i x. own_of t c i j x) w → Part t n c j w
part_own {t} {n} {c} {j} h =
    record {
      own = record { is = λ k x m l e. h.is k x m ∙ and_true (lt-ltb x n l) e };
      sound = λ k x m e. let a = split (sym (h.is k x m) ∙ e) in (ltb-true x n a.0, reach_own t c k j x a.1);
    }

part_all : {t : Table} {n c j : ℕ} {w : List ℕ} → Has n j (λ i x. reach_of t c i j x) w → Part t n c j w
part_all {t} {n} {c} {j} h =
    record {
      own = record { is = λ k x m l e. h.is k x m ∙ and_true (lt-ltb x n l) (reach_own t c k j x e) };
      sound = λ k x m e. let a = split (sym (h.is k x m) ∙ e) in (ltb-true x n a.0, a.1);
    }

part_kept : {t : Table} {n c h x : ℕ} {w u : List ℕ} → x < ROWS → (x ≡ h → ⊥) → Kept h w u → Part t n c x w → Part t n c x u
part_kept {x = x} l d k p =
    record {
      own = record { is = λ i j m b e. ap (λ (z : Set). in_set z j) (k.keep i x m l d) ∙ p.own.is i j m b e };
      sound = λ i j m e. p.sound i j m (sym (ap (λ (z : Set). in_set z j) (k.keep i x m l d)) ∙ e);
    }

-- ---- laws: direct cases from every node

pub record Putting (t : Table) (n : ℕ) (k : Concerned) (w : List ℕ) (m : ℕ) (u : List ℕ) : Type 0 where
  pub own : (c : ℕ) (ends : Set) → Asking t n c ends k w → (j : ℕ) → j < m → j < n → node t (in_set ends) c j ≡ true → Has n j (λ i x. own_of t c i j x) u

put_skip : (t : Table) (n : ℕ) (k : Concerned) (w u : List ℕ) (m : ℕ) → in_set k.nodes m ≡ false → Putting t n k w m u → Putting t n k w (m + 1) u
put_skip t n k w u m e p = record { own = λ c ends q j a b o. go c ends q j a b o (ℕ_discrete j m) }
  where
    go : (c : ℕ) (ends : Set) → Asking t n c ends k w → (j : ℕ) → j < m + 1 → j < n → node t (in_set ends) c j ≡ true → Dec (j ≡ m) → Has n j (λ i x. own_of t c i j x) u
    go c ends q j a b o (yes d) = not_both (rows_in_lem q.concerns.nodes j b ∙ o) (ap (in_set k.nodes) d ∙ e)
    go c ends q j a b o (no d) = p.own c ends q j (omega (arith, d)) b o

pub put_begin : (t : Table) (n : ℕ) (k : Concerned) (w : List ℕ) → Walk k.nodes k.nodes × Putting t n k w (First.next k.nodes) w
put_begin t n k w = walk_begin k.nodes (λ m. Putting t n k w m w) (put_skip t n k w w) (record { own = λ c ends q j a b o. absurd (omega arith) })

pub put_turn : {t : Table} {n : ℕ} {k : Concerned} {w u v : List ℕ} {left rest : Set} {h : ℕ} → Within REACH_AT REACH_END w u → Walk k.nodes left × Putting t n k w (First.next left) u
    → First left h → Rest left rest → PutDirect t n k h u v → Walk k.nodes rest × Putting t n k w (First.next rest) v
put_turn {t} {n} {k} {w} {u} {v} {left} {rest} {h} f inv low r put =
    walk_turn k.nodes (λ m. Putting t n k w m v) (put_skip t n k w v) inv.0 low r (record { own = λ c ends q j a b o. go c ends q j a b o (ℕ_discrete j h) })
  where
    go : (c : ℕ) (ends : Set) → Asking t n c ends k w → (j : ℕ) → j < h + 1 → j < n → node t (in_set ends) c j ≡ true → Dec (j ≡ h) → Has n j (λ i x. own_of t c i j x) v
    go c ends q j a b o (yes d) = subst (λ (z : ℕ). Has n z (λ i x. own_of t c i z x) v) (sym d) (put.own c ends (asking_kept f q))
    go c ends q j a b o (no d) =
        let e = first_next low in
        let l = q.few in
        has_kept (omega (arith, l)) d put.kept (inv.1.own c ends q j (omega (arith, d, e)) b o)

pub put_end : {t : Table} {n : ℕ} {k : Concerned} {w u : List ℕ} (left : Set) → any_below ROWS (in_set left) ≡ false → Putting t n k w (First.next left) u → Within REACH_AT REACH_END w u
    → PutsAll t n k w u
put_end {t} {n} {k} {w} {u} left e p f =
    record {
      own = λ c ends q.
          record {
            rows = q.rows;
            few = q.few;
            told = q.told.told;
            members = q.concerns.nodes;
            sub = λ j o. o;
            part = λ j o. let a = member_in j q.concerns.nodes o in let l = q.few in part_own (all.own c ends q j (omega (arith, a.0, l)) a.0 a.1);
            done = λ j o d. not_both o d;
          };
      frame = f;
    }
  where
    all : Putting t n k w ROWS u
    all = walk_end k.nodes (λ m. Putting t n k w m u) (put_skip t n k w u) left e p

-- ---- laws: a search from row h

module _ {t : Table} {n c : ℕ} {ends nodes waiting : Set} {w : List ℕ} (p : Partly t n c ends nodes waiting w) where
  inside : (j : ℕ) → in_set nodes j ≡ true → j < t.rows
  inside j e = let a = (member_in j p.members e).0 in let b = p.rows in omega arith

  small : (j : ℕ) → in_set nodes j ≡ true → j < ROWS
  small j e = let a = (member_in j p.members e).0 in let b = p.few in omega arith

module _ {t : Table} {n c : ℕ} {ends nodes waiting : Set} {w : List ℕ} (p : Partly t n c ends nodes waiting w) (h : ℕ) (waits : in_set waiting h ≡ true) where
  part_now : {u : List ℕ} → Kept h w u → Part t n c h u → (j : ℕ) → in_set nodes j ≡ true → Part t n c j u
  part_now {u} k q j e = go (ℕ_discrete j h)
    where
      go : Dec (j ≡ h) → Part t n c j u
      go (yes d) = subst (λ (z : ℕ). Part t n c z u) (sym d) q
      go (no d) = part_kept (small p j e) d k (p.part j e)

  -- row h takes in row j, which it reaches
  turned : {u v : List ℕ} {j : ℕ} (seen rest b : Set) → Kept h w u → Part t n c h u → ((y : ℕ) → in_set seen y ≡ true → in_set nodes y ≡ true → Owns t n c y h u)
      → in_set nodes j ≡ true → held u 0 h j ≡ true → Took h j u v → ((y : ℕ) → in_set b y ≡ (eqb y j or (not (in_set waiting j) and held v 0 j y)))
      → ((y : ℕ) → in_set rest y ≡ (in_set seen y or in_set b y)) → Part t n c h v × ((y : ℕ) → in_set rest y ≡ true → in_set nodes y ≡ true → Owns t n c y h v)
  turned {u} {v} {j} seen rest b k q old at there took eb er = (
    record {
      own = record { is = λ i x m l e. grow i x m (q.own.is i x m l e) };
      sound = λ i x m e. ⊎_elim (λ o. q.sound i x m o) (λ o. brought i x m o) (or_cases _ _ (sym (took.is i x m) ∙ e));
    },
    λ y e o. cover y o (or_cases _ _ (sym (er y) ∙ e)),
  )
    where
      here : Part t n c j u
      here = part_now k q j at

      grow : (i x : ℕ) → i < 3 → held u i h x ≡ true → held v i h x ≡ true
      grow i x m e = took.is i x m ∙ or_left _ e

      take : (i x : ℕ) → i < 3 → held u i j x ≡ true → held v i h x ≡ true
      take i x m e = took.is i x m ∙ or_right _ e

      brought : (i x : ℕ) → i < 3 → held u i j x ≡ true → (x < n) × (reach_of t c i h x ≡ true)
      brought i x m e = let a = here.sound i x m e in (a.0, reach_more t c i h j x (inside p j at) (q.sound 0 j (omega arith) there).1 a.1)

      cover : (y : ℕ) → in_set nodes y ≡ true → (in_set seen y ≡ true) ⊎ (in_set b y ≡ true) → Owns t n c y h v
      cover y o (inl e) = record { is = λ i x m l f. grow i x m ((old y e o).is i x m l f) }
      cover y o (inr e) = more (or_cases _ _ (sym (eb y) ∙ e))
        where
          more : (eqb y j ≡ true) ⊎ ((not (in_set waiting j) and held v 0 j y) ≡ true) → Owns t n c y h v
          more (inl f) = record { is = λ i x m l g. take i x m (here.own.is i x m l (ap (λ (z : ℕ). own_of t c i z x) (sym (eqb-true y j f)) ∙ g)) }
          more (inr f) =
              let off = not_out (in_set waiting j) (split f).0 in
              let d : (j ≡ h → ⊥) = λ g. not_both waits (ap (in_set waiting) (sym g) ∙ off) in
              let all = has_kept (small p j at) d k (p.done j at off) in
              let r = split (sym ((has_kept (small p j at) d took.kept all).is 0 y (omega arith)) ∙ (split f).1) in
              record { is = λ i x m l g. take i x m (all.is i x m ∙ and_true (lt-ltb x n l) (reach_more t c i j y x (inside p y o) r.1 (reach_own t c i y x g))) }

  -- no node is left
  ended : {u : List ℕ} (left seen : Set) → Part t n c h u → ((y : ℕ) → in_set seen y ≡ true → in_set nodes y ≡ true → Owns t n c y h u)
      → ((y : ℕ) → in_set left y ≡ (held u 0 h y and in_set nodes y and not (in_set seen y))) → any_below ROWS (in_set left) ≡ false → Has n h (λ i x. reach_of t c i h x) u
  unfolding own_of reach_of sort_at
  ended {u} left seen q old el e =
      record { is = λ k x m. bool_ext _ _ (λ i. let a = q.sound k x m i in and_true (lt-ltb x n a.0) a.1) (λ i. let a = split i in back k x m (ltb-true x n a.0) a.1) }
    where
      back : (k x : ℕ) → k < 3 → x < n → reach_of t c k h x ≡ true → held u k h x ≡ true
      back k x m l f = go h q.own (node_way t c (in_set ends) p.told h (sort_at t k x) (inside p h (p.sub h waits)) (member_in h p.members (p.sub h waits)).1 f)
        where
          go : (y : ℕ) → Owns t n c y h u → Way t (in_set ends) c (sort_at t k x) y → held u k h x ≡ true
          go y o (last g) = o.is k x m l g
          go y o (next {y = z} g b s r) = go z (old z (seen_is (which (in_set seen z))) at) r
            where
              low : z < n
              low = let a = p.rows in omega arith

              at : in_set nodes z ≡ true
              at = rows_in_lem p.members z low ∙ s

              seen_is : (in_set seen z ≡ true) ⊎ (in_set seen z ≡ false) → in_set seen z ≡ true
              seen_is (inl i) = i
              seen_is (inr i) = not_both (el z ∙ and_true (and_true (o.is 0 z (omega arith) low g) at) (not_in i)) (any_off (in_set left) ROWS e z (small p z at))

pub see_begin : (h : ℕ) (nodes waiting : Set) (w : List ℕ) (left seen : Set) → ((y : ℕ) → in_set seen y ≡ false) → ((y : ℕ) → in_set left y ≡ (held w 0 h y and in_set nodes y and not (in_set seen y)))
    → Seeing h nodes waiting w left seen w
see_begin h nodes waiting w left seen e el = record { ahead = el; all = λ t n c ends p o. (p.part h (p.sub h o), λ y f g. not_both f (e y)); kept = kept_none h w }

pub see_turn : {h : ℕ} {nodes waiting : Set} {w u v : List ℕ} {left seen : Set} {j : ℕ} (b rest more : Set) → Seeing h nodes waiting w left seen u → First left j → Took h j u v
    → ((y : ℕ) → in_set b y ≡ (eqb y j or (not (in_set waiting j) and held v 0 j y))) → ((y : ℕ) → in_set rest y ≡ (in_set seen y or in_set b y))
    → ((y : ℕ) → in_set more y ≡ (held v 0 h y and in_set nodes y and not (in_set rest y))) → Seeing h nodes waiting w more rest v
see_turn {left = left} {seen} {j} b rest more inv low took eb er en =
    record {
      ahead = en;
      all = λ t n c ends p o. let q = inv.all t n c ends p o in let a = split (split (sym (inv.ahead j) ∙ low.hit)).0 in turned p _ o seen rest b inv.kept q.0 q.1 a.1 a.0 took eb er;
      kept = kept_more inv.kept took.kept;
    }

pub see_end : {h : ℕ} {nodes waiting : Set} {w u : List ℕ} (left seen : Set) → any_below ROWS (in_set left) ≡ false → Seeing h nodes waiting w left seen u → Searches h nodes waiting w u
see_end left seen e inv =
    record { all = λ t n c ends p o. let q = inv.all t n c ends p o in ended p _ o left seen q.0 q.1 inv.ahead e; kept = inv.kept }

-- ---- laws: the measure falls

one_under : (a b : Bool) → (a ≡ true → b ≡ true) → one a ≤ one b
unfolding one
one_under true b h = rw (h refl) (omega arith)
one_under false b h = omega arith

count_under : (p q : ℕ → Bool) (n : ℕ) → ((k : ℕ) → q k ≡ true → p k ≡ true) → count_below n q ≤ count_below n p
unfolding count_below
count_under p q zero h = omega arith
count_under p q (suc n) h = omega (arith, count_under p q n h, one_under (q n) (p n) (h n))

-- where one that passed doesn't, and none does that didn't
count_falls : (p q : ℕ → Bool) (n i : ℕ) → i < n → p i ≡ true → q i ≡ false → ((k : ℕ) → q k ≡ true → p k ≡ true) → count_below n q < count_below n p
unfolding count_below one
count_falls p q zero i l a b h = absurd (omega arith)
count_falls p q (suc n) i l a b h = go (ℕ_discrete i n) (λ o. count_falls p q n i o a b h)
  where
    go : Dec (i ≡ n) → (i < n → count_below n q < count_below n p) → count_below n q + one (q n) < count_below n p + one (p n)
    go (yes e) ih =
        let c = count_under p q n h in
        let s : p n ≡ true = subst (λ (z : ℕ). p z ≡ true) e a in
        let t : q n ≡ false = subst (λ (z : ℕ). q z ≡ false) e b in
        rw (s, t) (omega (arith, c))
    go (no e) ih =
        let c = ih (omega arith) in
        let s = one_under (q n) (p n) (h n) in
        omega (arith, c, s)

-- how many rows aren't seen
abbrev pub unseen : Set → ℕ
unseen seen = count_below ROWS (λ k. not (in_set seen k))

pub see_less : {h : ℕ} {nodes waiting : Set} {w u : List ℕ} {left seen : Set} {j : ℕ} (v : List ℕ) (b rest : Set) → Seeing h nodes waiting w left seen u → First left j
    → ((y : ℕ) → in_set b y ≡ (eqb y j or (not (in_set waiting j) and held v 0 j y))) → ((y : ℕ) → in_set rest y ≡ (in_set seen y or in_set b y)) → unseen rest < unseen seen
see_less {left = left} {seen} {j} v b rest inv low eb er =
    count_falls (λ k. not (in_set seen k)) (λ k. not (in_set rest k)) ROWS j low.bound (split (sym (inv.ahead j) ∙ low.hit)).1
    (ap not (er j ∙ or_right _ (eb j ∙ or_left _ (eq-eqb j j refl))))
    (λ k e. not_in (or_false (in_set seen k) (in_set b k) (sym (er k) ∙ not_out (in_set rest k) e)).0)

-- ---- laws: turn by turn

pub turn_low : (n i : ℕ) (down : Bool) → i < n → turn_of n down i < n
turn_low n i true l = omega arith
turn_low n i false l = l

-- the row whose turn is row j's
turn_back : (n i j : ℕ) (down : Bool) → i < n → j < n → turn_of n down j ≡ i → j ≡ turn_of n down i
turn_back n i j true l m e = omega arith
turn_back n i j false l m e = e

pub close_begin : (n : ℕ) (nodes : Set) (down : Bool) (w : List ℕ) → Closing n nodes down w 0 nodes w
close_begin n nodes down w = record { gone = λ j l o. absurd (omega arith); to = λ t c ends p. p; frame = within_refl REACH_AT REACH_END w }

-- what had its turn before row h's
earlier : (n i h j : ℕ) (down : Bool) → i < n → h ≡ turn_of n down i → j < n → turn_of n down j < i + 1 → (j ≡ h → ⊥) → turn_of n down j < i
earlier n i h j down l e m o d = let f : (turn_of n down j ≡ i → ⊥) = λ g. d (turn_back n i j down l m g ∙ sym e) in omega (arith, o, f)

pub close_skip : {n : ℕ} {nodes : Set} {down : Bool} {w u : List ℕ} {i : ℕ} {waiting : Set} (h : ℕ) (b : Bool) → i < n → h ≡ turn_of n down i → b ≡ in_set waiting h → b ≡ false
    → Closing n nodes down w i waiting u → Closing n nodes down w (i + 1) waiting u
close_skip {n} {nodes} {down} {w} {u} {i} {waiting} h b l e eb f inv = record { gone = λ j m o. go j m o (ℕ_discrete j h); to = inv.to; frame = inv.frame }
  where
    go : (j : ℕ) → j < n → turn_of n down j < i + 1 → Dec (j ≡ h) → in_set waiting j ≡ false
    go j m o (yes d) = ap (in_set waiting) d ∙ sym eb ∙ f
    go j m o (no d) = inv.gone j m (earlier n i h j down l e m o d)

pub close_turn : {n : ℕ} {nodes : Set} {down : Bool} {w u v : List ℕ} {i : ℕ} {waiting : Set} (h : ℕ) (b : Bool) (rest : Set) → i < n → h ≡ turn_of n down i → b ≡ in_set waiting h → b ≡ true
    → Closing n nodes down w i waiting u → Searches h nodes waiting u v → ((j : ℕ) → in_set rest j ≡ (in_set waiting j and not (eqb j h))) → Closing n nodes down w (i + 1) rest v
close_turn {n} {nodes} {down} {w} {u} {v} {i} {waiting} h b rest l e eb f inv s er =
    record { gone = λ j m o. go j m o (ℕ_discrete j h); to = λ t c ends p. to t c ends (inv.to t c ends p); frame = within_trans inv.frame s.kept.frame }
  where
    go : (j : ℕ) → j < n → turn_of n down j < i + 1 → Dec (j ≡ h) → in_set rest j ≡ false
    go j m o (yes d) = er j ∙ and_false_right _ _ (ap not (eq-eqb j h d))
    go j m o (no d) = er j ∙ and_false_left _ _ (inv.gone j m (earlier n i h j down l e m o d))

    to : (t : Table) (c : ℕ) (ends : Set) → Partly t n c ends nodes waiting u → Partly t n c ends nodes rest v
    to t c ends p =
        record {
          rows = p.rows;
          few = p.few;
          told = p.told;
          members = p.members;
          sub = λ j o. p.sub j (split (sym (er j) ∙ o)).0;
          part = λ j o. part j o (ℕ_discrete j h);
          done = λ j o r. done j o r (ℕ_discrete j h);
        }
      where
        all : Has n h (λ k x. reach_of t c k h x) v
        all = s.all t n c ends p (sym eb ∙ f)

        part : (j : ℕ) → in_set nodes j ≡ true → Dec (j ≡ h) → Part t n c j v
        part j o (yes d) = subst (λ (z : ℕ). Part t n c z v) (sym d) (part_all all)
        part j o (no d) = part_kept (small p j o) d s.kept (p.part j o)

        done : (j : ℕ) → in_set nodes j ≡ true → in_set rest j ≡ false → Dec (j ≡ h) → Has n j (λ k x. reach_of t c k j x) v
        done j o r (yes d) = subst (λ (z : ℕ). Has n z (λ k x. reach_of t c k z x) v) (sym d) all
        done j o r (no d) =
            has_kept (small p j o) d s.kept (p.done j o (not_so (in_set waiting j) (λ g. not_both (er j ∙ and_true g (not_in (ne_eqb j h d))) r)))

pub close_end : {n : ℕ} {nodes : Set} {down : Bool} {w u : List ℕ} (i : ℕ) (waiting : Set) → n ≤ i → Closing n nodes down w i waiting u → Closes n nodes w u
close_end {n} {down = down} i waiting l inv =
    record {
      to = λ t c ends p j m o. let q = inv.to t c ends p in q.done j (rows_in_lem q.members j m ∙ o) (inv.gone j m (let a = turn_low n j down m in omega arith));
      frame = inv.frame;
    }

-- ---- laws: what is made

asking_of : {t : Table} {n c : ℕ} {ends : Set} {k : Concerned} {s w : List ℕ} → Asks t n c ends k s w → Asking t n c ends k w
asking_of a = record { rows = a.given.opened.rows; few = given_few a.given; told = a.told; concerns = a.concerns; syncs = a.syncs; depends = a.depends }

reach_made : {t : Table} {n c : ℕ} {ends : Set} {w u : List ℕ} → ((j : ℕ) → j < n → node t (in_set ends) c j ≡ true → Has n j (λ i x. reach_of t c i j x) u) → Within REACH_AT REACH_END w u
    → MadeReach t n c ends w u
unfolding reach_of sort_at reached_at reached_visible reached_available
reach_made h f =
    record {
      at = record { row = λ i l o. record { is = λ j. (h i l o).is 0 j (omega arith) } };
      visible = record { row = λ i l o. record { is = λ j. (h i l o).is 1 j (omega arith) } };
      available = record { row = λ i l o. record { is = λ j. (h i l o).is 2 j (omega arith) } };
      frame = f;
    }

pub made_reach : {t : Table} {n c : ℕ} {ends : Set} {k : Concerned} {s w v u : List ℕ} → Asks t n c ends k s w → PutsAll t n k w v → Closes n k.nodes v u
    → MadeReach t n c ends w u
made_reach {t} {n} {c} {ends} a p q = reach_made (q.to t c ends (p.own c ends (asking_of a))) (within_trans p.frame q.frame)

pub nodes_low : {t : Table} {n c : ℕ} {ends : Set} {k : Concerned} {s w : List ℕ} → Asks t n c ends k s w → (j : ℕ) → in_set k.nodes j ≡ true → j < n
nodes_low a j e = (member_in j a.concerns.nodes e).0
