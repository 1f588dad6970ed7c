-- What a row or an operation leads to by way of the first release row behind it, as sets of rows. Assumes nothing.
use Rattle.std.specs.Prelude.{◌≡◌, refl, Bool, true, List, ◌⊎◌, ℕ, ◌+◌, ◌*◌, ◌≤◌, ◌<◌}
use Rattle.std.proofs.Math.Path.{sym, ap}
use Rattle.std.proofs.Common.{subst, ◌∙◌, inl, inr, arith, eqb-true, eq-eqb, lt-ltb, le-ltb}
use Rattle.std.proofs.Math.Bool.{false, cond}
use Rattle.std.proofs.Math.Logic.{⊎_elim}
use Rattle.std.proofs.Math.Dec.{eqb, ltb}
use Rattle.finite.specs.Logic.{◌and◌, ◌or◌, which, bool_ext, split, and_true, and_on, and_false_left, and_false_right, or_cases, or_left, or_right, or_off, and_or, and_same}
use Rattle.finite.specs.Below.{any_below, any_off, least, least_unique, least_off}
use Rattle.model.specs.Limits.{ROWS}
use Rattle.model.specs.Table.{Table}
use Rattle.model.specs.Moment.{itself}
use Rattle.model.specs.Availability.{availability_moment, visibility_moment}
use Rattle.model.specs.Happens.{inter_thread}
use Rattle.bits.specs.Within.{Within, within_refl, within_trans, within_widen}
use Rattle.model_closing.specs.Tests.{and_assoc}
use Rattle.model_closing.specs.Order.{later_row}
use Rattle.model_closing.specs.Nodes.{releaser, node}
use Rattle.model_closing.specs.Direct.{takes_part, available_for, visible_for}
use Rattle.model_closing.specs.Sets.{reached_at, reached_available, reached_visible, passes_later, next_release, of_next}
use Rattle.model_closing.specs.Asked.{next_or_of, releases_from, release_from, from_rows_of, from_available_at, from_available, from_visible, asked_at, asked_available_at, asked_available_visible, asked_availables, asked_visibles}
use Rattle.model_closing.proofs.Asked.{inter_at, inter_available_at, inter_available_visible, inter_availables, inter_visibles}
use Rattle.sets_of_rows.specs.declared.Set.{Set}
use Rattle.sets_of_rows.specs.Member.{in_set}
use Rattle.sets_of_rows.specs.First.{First, first_of, first_next, next}
use Rattle.sets_of_rows.specs.Kept.{set_at, Stored, joined}
use Rattle.sets_of_rows.specs.Family.{nth}
use Rattle.sets_of_rows.specs.Rows.{Rows, rows_cong, rows_and}
use Rattle.sets_grids.specs.declared.Concerned.{Concerned}
use Rattle.sets_grids.specs.Regions.{HAPPENS, HAPPENS_END, AVAILABLE_AT, AVAILABLE_VISIBLE, AVAILABLE_AVAILABLE, VISIBLE_VISIBLE, REACH_AT, REACH_VISIBLE, REACH_AVAILABLE}
use Rattle.sets_grids.specs.Grid.{GridOn, grid_on_kept}
use Rattle.sets_grids.specs.Given.{given_kept, given_few}
use Rattle.sets_grids.specs.Filling.{member_in}
use Rattle.sets_happens.specs.Adds.{Reached}
use Rattle.sets_happens.specs.Adding.{Adds, adds_join, adds_cong, adds_none, adds_after, adds_before}
use Rattle.sets_happens.specs.Program.{behind, turned}

-- ---- definitions

-- of the first of r, where there is one: it, and what its set has; what its set has
unfoldable pub by_first : ℕ → Set → List ℕ → ℕ → Bool
by_first base r w j = any_below ROWS (in_set r) and (eqb j (next r) or in_set (nth w base (next r)) j)

unfoldable pub of_first : ℕ → Set → List ℕ → ℕ → Bool
of_first base r w j = any_below ROWS (in_set r) and in_set (nth w base (next r)) j

-- what row i leads to, where it is concerned
unfoldable pub from_at : Table → Set → ℕ → ℕ → ℕ → Bool
from_at t ends c i j = cond (node t (in_set ends) c i) (reached_at t c i j) (next_or_of t (reached_at t c) (next_release t c i) j)

unfoldable pub concerned : Table → Set → ℕ → ℕ → Bool
concerned t ends c i = takes_part t c i or node t (in_set ends) c i

-- what row a's availability operation, row v's visibility operation leads to, where it is concerned
unfoldable pub available_to : Table → ℕ → ℕ → ℕ → Bool
available_to t c a j = next_or_of t (reached_at t c) (release_from t c a) j

unfoldable pub available_visible : Table → ℕ → ℕ → ℕ → Bool
available_visible t c a j = of_next t (reached_visible t c) (release_from t c a) j

unfoldable pub available_available : Table → ℕ → ℕ → ℕ → Bool
available_available t c a j = of_next t (reached_available t c) (release_from t c a) j

unfoldable pub visible_visible : Table → ℕ → ℕ → ℕ → Bool
visible_visible t c v j = of_next t (reached_visible t c) (next_release t c v) j

pub record JoinsAvailable (a : ℕ) (r : Set) (w u : List ℕ) : Type 0 where
  pub rows : Adds AVAILABLE_AT a (by_first REACH_AT r w) w u
  pub visibles : Adds AVAILABLE_VISIBLE a (of_first REACH_VISIBLE r w) w u
  pub availables : Adds AVAILABLE_AVAILABLE a (of_first REACH_AVAILABLE r w) w u
  pub frame : Within AVAILABLE_AT VISIBLE_VISIBLE w u

pub record JoinsVisible (v : ℕ) (r : Set) (w u : List ℕ) : Type 0 where
  pub row : Adds VISIBLE_VISIBLE v (of_first REACH_VISIBLE r w) w u
  pub frame : Within VISIBLE_VISIBLE HAPPENS_END w u

-- ---- laws: what is asked stays so

pub reached_kept : {t : Table} {n c : ℕ} {ends : Set} {k : Concerned} {s w u : List ℕ} → Within HAPPENS HAPPENS_END w u → Reached t n c ends k s w → Reached t n c ends k s u
reached_kept f r =
    record {
      given = given_kept f r.given;
      told = r.told;
      concerns = r.concerns;
      at = grid_on_kept (λ o. omega arith) f r.at;
      visible = grid_on_kept (λ o. omega arith) f r.visible;
      available = grid_on_kept (λ o. omega arith) f r.available;
    }

-- ---- laws: the first of a set of rows

first_rows : {n : ℕ} {p : ℕ → Bool} {r : Set} → Rows n p r → n ≤ ROWS
    → ((any_below ROWS (in_set r) ≡ true) × (next r ≡ least n p) × (least n p < n) × (p (least n p) ≡ true)) ⊎ ((any_below ROWS (in_set r) ≡ false) × (least n p ≡ n))
first_rows {n} {p} {r} h few = go (which (any_below ROWS (in_set r)))
  where
    go : (any_below ROWS (in_set r) ≡ true) ⊎ (any_below ROWS (in_set r) ≡ false)
        → ((any_below ROWS (in_set r) ≡ true) × (next r ≡ least n p) × (least n p < n) × (p (least n p) ≡ true)) ⊎ ((any_below ROWS (in_set r) ≡ false) × (least n p ≡ n))
    go (inl e) = inl (e, sym q, subst (λ (i : ℕ). i < n) (sym q) m.0, subst (λ (i : ℕ). p i ≡ true) (sym q) m.1)
      where
        f : First r (next r)
        f = first_of r e

        m : (next r < n) × (p (next r) ≡ true)
        m = member_in (next r) h f.hit

        miss : (k : ℕ) → k < next r → p k ≡ false
        miss k l = sym (and_on (ltb k n) (p k) (lt-ltb k n (omega (arith, m.0, l)))) ∙ sym (h.is k) ∙ f.miss k l

        q : least n p ≡ next r
        q = least_unique p n (next r) m.0 m.1 miss
    go (inr e) = inr (e, least_off p n (λ k l. sym (and_on (ltb k n) (p k) (lt-ltb k n l)) ∙ sym (h.is k) ∙ any_off (in_set r) ROWS e k (omega (arith, l, few))))

or_cut : (i j n : ℕ) (b : Bool) → i < n → (eqb j i or (ltb j n and b)) ≡ (ltb j n and (eqb i j or b))
or_cut i j n b l = bool_ext _ _ forth back
  where
    forth : (eqb j i or (ltb j n and b)) ≡ true → (ltb j n and (eqb i j or b)) ≡ true
    forth e =
        ⊎_elim (λ d. let q = eqb-true j i d in and_true (lt-ltb j n (omega (arith, l))) (or_left b (eq-eqb i j (sym q))))
        (λ d. and_true (split d).0 (or_right (eqb i j) (split d).1)) (or_cases _ _ e)

    back : (ltb j n and (eqb i j or b)) ≡ true → (eqb j i or (ltb j n and b)) ≡ true
    back e =
        ⊎_elim (λ d. let q = eqb-true i j d in or_left (ltb j n and b) (eq-eqb j i (sym q)))
        (λ d. or_right (eqb j i) (and_true (split e).0 d)) (or_cases _ _ (split e).1)

module _ {n : ℕ} {p on : ℕ → Bool} {r : Set} (h : Rows n p r) (few : n ≤ ROWS) (base : ℕ) (got : ℕ → ℕ → Bool) (w : List ℕ)
    (grid : GridOn on base n got w) (within : (i : ℕ) → p i ≡ true → on i ≡ true) (j : ℕ) where
  pub by_first_lem : by_first base r w j ≡ (ltb j n and (ltb (least n p) n and (eqb (least n p) j or got (least n p) j)))
  unfolding by_first
  by_first_lem = ⊎_elim some none (first_rows h few)
    where
      some : (any_below ROWS (in_set r) ≡ true) × (next r ≡ least n p) × (least n p < n) × (p (least n p) ≡ true)
          → (any_below ROWS (in_set r) and (eqb j (next r) or in_set (nth w base (next r)) j)) ≡ (ltb j n and (ltb (least n p) n and (eqb (least n p) j or got (least n p) j)))
      some m =
          and_on _ _ m.0 ∙ ap (λ (i : ℕ). eqb j i or in_set (nth w base i) j) m.1
          ∙ ap (λ (b : Bool). eqb j (least n p) or b) ((grid.row (least n p) m.2 (within _ m.3)).is j)
          ∙ or_cut (least n p) j n (got (least n p) j) m.2
          ∙ ap (λ (b : Bool). ltb j n and b) (sym (and_on _ _ (lt-ltb (least n p) n m.2)))

      none : (any_below ROWS (in_set r) ≡ false) × (least n p ≡ n)
          → (any_below ROWS (in_set r) and (eqb j (next r) or in_set (nth w base (next r)) j)) ≡ (ltb j n and (ltb (least n p) n and (eqb (least n p) j or got (least n p) j)))
      none m = and_false_left _ _ m.0 ∙ sym (and_false_right _ _ (and_false_left _ _ (le-ltb (least n p) n (omega (arith, m.1)))))

  pub of_first_lem : of_first base r w j ≡ (ltb j n and (ltb (least n p) n and got (least n p) j))
  unfolding of_first
  of_first_lem = ⊎_elim some none (first_rows h few)
    where
      some : (any_below ROWS (in_set r) ≡ true) × (next r ≡ least n p) × (least n p < n) × (p (least n p) ≡ true)
          → (any_below ROWS (in_set r) and in_set (nth w base (next r)) j) ≡ (ltb j n and (ltb (least n p) n and got (least n p) j))
      some m =
          and_on _ _ m.0 ∙ ap (λ (i : ℕ). in_set (nth w base i) j) m.1
          ∙ (grid.row (least n p) m.2 (within _ m.3)).is j
          ∙ ap (λ (b : Bool). ltb j n and b) (sym (and_on _ _ (lt-ltb (least n p) n m.2)))

      none : (any_below ROWS (in_set r) ≡ false) × (least n p ≡ n)
          → (any_below ROWS (in_set r) and in_set (nth w base (next r)) j) ≡ (ltb j n and (ltb (least n p) n and got (least n p) j))
      none m = and_false_left _ _ m.0 ∙ sym (and_false_right _ _ (and_false_left _ _ (le-ltb (least n p) n (omega (arith, m.1)))))

-- ---- laws: release rows behind a row, behind an availability operation

releaser_node : (t : Table) (ends : ℕ → Bool) (c i : ℕ) → releaser t c i ≡ true → node t ends c i ≡ true
unfolding node
releaser_node t ends c i e = or_left _ (or_left _ e)

module _ {t : Table} {n c : ℕ} {ends : Set} {k : Concerned} {s w : List ℕ} (q : Reached t n c ends k s w) where
  rows_is : t.rows ≡ n
  rows_is = q.given.opened.rows

  few : n ≤ ROWS
  few = given_few q.given

  module _ (i : ℕ) {x : Set} (r : Set) (h : Rows n (later_row t i) x) (e : (j : ℕ) → in_set r j ≡ (in_set x j and in_set k.releases j)) where
    pub later_releases : Rows n (passes_later t (releaser t c) i) r
    unfolding passes_later
    later_releases = rows_cong (λ j l. turned _ _) (rows_and h q.concerns.releases e)

    later_node : (j : ℕ) → passes_later t (releaser t c) i j ≡ true → node t (in_set ends) c j ≡ true
    unfolding passes_later
    later_node j d = releaser_node t (in_set ends) c j (split d).0

    next_is : least n (passes_later t (releaser t c) i) ≡ next_release t c i
    unfolding next_release
    next_is = ap (λ (m : ℕ). least m (passes_later t (releaser t c) i)) (sym rows_is)

    pub by_later : (j : ℕ) → by_first REACH_AT r w j ≡ (ltb j n and next_or_of t (reached_at t c) (next_release t c i) j)
    unfolding next_or_of
    by_later j =
        by_first_lem later_releases few REACH_AT (reached_at t c) w q.at later_node j
        ∙ ap (λ (a : ℕ). ltb j n and (ltb a n and (eqb a j or reached_at t c a j))) next_is
        ∙ ap (λ (m : ℕ). ltb j n and (ltb (next_release t c i) m and (eqb (next_release t c i) j or reached_at t c (next_release t c i) j))) (sym rows_is)

    pub visible_later : (j : ℕ) → of_first REACH_VISIBLE r w j ≡ (ltb j n and visible_visible t c i j)
    unfolding of_next visible_visible
    visible_later j =
        of_first_lem later_releases few REACH_VISIBLE (reached_visible t c) w q.visible later_node j
        ∙ ap (λ (a : ℕ). ltb j n and (ltb a n and reached_visible t c a j)) next_is
        ∙ ap (λ (m : ℕ). ltb j n and (ltb (next_release t c i) m and reached_visible t c (next_release t c i) j)) (sym rows_is)

  module _ (a : ℕ) {x : Set} (r : Set) (h : Rows n (behind t a) x) (e : (j : ℕ) → in_set r j ≡ (in_set x j and in_set k.releases j)) where
    behind_releases : Rows n (releases_from t c a) r
    unfolding releases_from behind
    behind_releases = rows_cong (λ j l. turned _ _) (rows_and h q.concerns.releases e)

    behind_node : (j : ℕ) → releases_from t c a j ≡ true → node t (in_set ends) c j ≡ true
    unfolding releases_from
    behind_node j d = releaser_node t (in_set ends) c j (split d).0

    from_is : least n (releases_from t c a) ≡ release_from t c a
    unfolding release_from
    from_is = ap (λ (m : ℕ). least m (releases_from t c a)) (sym rows_is)

    pub by_behind : (j : ℕ) → by_first REACH_AT r w j ≡ (ltb j n and available_to t c a j)
    unfolding next_or_of available_to
    by_behind j =
        by_first_lem behind_releases few REACH_AT (reached_at t c) w q.at behind_node j
        ∙ ap (λ (i : ℕ). ltb j n and (ltb i n and (eqb i j or reached_at t c i j))) from_is
        ∙ ap (λ (m : ℕ). ltb j n and (ltb (release_from t c a) m and (eqb (release_from t c a) j or reached_at t c (release_from t c a) j))) (sym rows_is)

    pub visible_behind : (j : ℕ) → of_first REACH_VISIBLE r w j ≡ (ltb j n and available_visible t c a j)
    unfolding of_next available_visible
    visible_behind j =
        of_first_lem behind_releases few REACH_VISIBLE (reached_visible t c) w q.visible behind_node j
        ∙ ap (λ (i : ℕ). ltb j n and (ltb i n and reached_visible t c i j)) from_is
        ∙ ap (λ (m : ℕ). ltb j n and (ltb (release_from t c a) m and reached_visible t c (release_from t c a) j)) (sym rows_is)

    pub available_behind : (j : ℕ) → of_first REACH_AVAILABLE r w j ≡ (ltb j n and available_available t c a j)
    unfolding of_next available_available
    available_behind j =
        of_first_lem behind_releases few REACH_AVAILABLE (reached_available t c) w q.available behind_node j
        ∙ ap (λ (i : ℕ). ltb j n and (ltb i n and reached_available t c i j)) from_is
        ∙ ap (λ (m : ℕ). ltb j n and (ltb (release_from t c a) m and reached_available t c (release_from t c a) j)) (sym rows_is)

  -- ---- what a row leads to

  pub from_node : (i : ℕ) {x : Set} → i < n → in_set k.nodes i ≡ true → x ≡ set_at w (REACH_AT + 2 * i) → Rows n (from_at t ends c i) x
  unfolding from_at
  from_node i {x} l e d =
      let o = (member_in i q.concerns.nodes e).1 in
      record {
        is = λ j.
            ap (λ (z : Set). in_set z j) d ∙ (q.at.row i l o).is j
            ∙ ap (λ (b : Bool). ltb j n and cond b (reached_at t c i j) (next_or_of t (reached_at t c) (next_release t c i) j)) (sym o);
      }

  pub from_other : (i : ℕ) (x r : Set) {y : Set} → i < n → in_set k.nodes i ≡ false → Rows n (later_row t i) y → ((j : ℕ) → in_set r j ≡ (in_set y j and in_set k.releases j))
      → ((j : ℕ) → in_set x j ≡ by_first REACH_AT r w j) → Rows n (from_at t ends c i) x
  unfolding from_at
  from_other i x r l e h f g =
      let o : node t (in_set ends) c i ≡ false = sym (and_on _ _ (lt-ltb i n l)) ∙ sym (q.concerns.nodes.is i) ∙ e in
      record {
        is = λ j.
            g j ∙ by_later i r h f j
            ∙ ap (λ (b : Bool). ltb j n and cond b (reached_at t c i j) (next_or_of t (reached_at t c) (next_release t c i) j)) (sym o);
      }

  pub concerned_set : (x : Set) → ((j : ℕ) → in_set x j ≡ (in_set k.at j or in_set k.nodes j)) → Rows n (concerned t ends c) x
  unfolding concerned
  concerned_set x e =
      record {
        is = λ j.
            e j ∙ ap (λ (z : Bool). z or in_set k.nodes j) (q.concerns.at.is j) ∙ ap (λ (z : Bool). (ltb j n and takes_part t c j) or z) (q.concerns.nodes.is j)
            ∙ and_or (ltb j n) (takes_part t c j) (node t (in_set ends) c j);
      }

  -- ---- and in words of the model

  told_of : (a b : ℕ) → t.depends a b ≡ true → (in_set ends a ≡ true) × (in_set ends b ≡ true)
  told_of = q.told.told

  pub at_is : (i j : ℕ) → i < n → (concerned t ends c i and from_at t ends c i j) ≡ inter_thread t c (itself i) (itself j)
  unfolding concerned from_at asked_at from_rows_of
  at_is i j l = go (which (node t (in_set ends) c i)) ∙ sym (inter_at t c (in_set ends) told_of i j (omega (arith, rows_is, l)))
    where
      go : (node t (in_set ends) c i ≡ true) ⊎ (node t (in_set ends) c i ≡ false)
          → ((takes_part t c i or node t (in_set ends) c i) and cond (node t (in_set ends) c i) (reached_at t c i j) (next_or_of t (reached_at t c) (next_release t c i) j))
          ≡ cond (node t (in_set ends) c i) (reached_at t c i j) (takes_part t c i and next_or_of t (reached_at t c) (next_release t c i) j)
      go (inl e) = rw e (and_on _ _ (or_right _ refl))
      go (inr e) = rw e (ap (λ (b : Bool). b and next_or_of t (reached_at t c) (next_release t c i) j) (or_off (takes_part t c i) false refl))

  -- a row that is concerned; any row
  pub at_turn : (i : ℕ) {x : Set} → i < n → concerned t ends c i ≡ true → Rows n (from_at t ends c i) x
      → (j : ℕ) → in_set x j ≡ (ltb j n and inter_thread t c (itself i) (itself j))
  at_turn i l e h j = h.is j ∙ ap (λ (b : Bool). ltb j n and b) (sym (and_on _ _ e) ∙ at_is i j l)

  pub at_same : (i j : ℕ) → i < n → (concerned t ends c i and inter_thread t c (itself i) (itself j)) ≡ inter_thread t c (itself i) (itself j)
  at_same i j l = ap (λ (b : Bool). concerned t ends c i and b) (sym (at_is i j l)) ∙ again (concerned t ends c i) (from_at t ends c i j) ∙ at_is i j l
    where
      again : (a b : Bool) → (a and (a and b)) ≡ (a and b)
      again a b = sym (and_assoc a a b) ∙ ap (λ (z : Bool). z and b) (and_same a)

  pub available_at_is : (i j : ℕ) → i < n → (available_for t c i and available_to t c i j) ≡ inter_thread t c (availability_moment t i) (itself j)
  unfolding available_to asked_available_at from_available_at
  available_at_is i j l = sym (inter_available_at t c (in_set ends) told_of i j (omega (arith, rows_is, l)))

  pub available_visible_is : (i j : ℕ) → i < n → (available_for t c i and available_visible t c i j) ≡ inter_thread t c (availability_moment t i) (visibility_moment t j)
  unfolding available_visible asked_available_visible from_available
  available_visible_is i j l = sym (inter_available_visible t c (in_set ends) told_of i j (omega (arith, rows_is, l)))

  pub availables_is : (i j : ℕ) → i < n → (available_for t c i and available_available t c i j) ≡ inter_thread t c (availability_moment t i) (availability_moment t j)
  unfolding available_available asked_availables from_available
  availables_is i j l = sym (inter_availables t c (in_set ends) told_of i j (omega (arith, rows_is, l)))

  pub visibles_is : (i j : ℕ) → i < n → (visible_for t c i and visible_visible t c i j) ≡ inter_thread t c (visibility_moment t i) (visibility_moment t j)
  unfolding visible_visible asked_visibles from_visible
  visibles_is i j l = sym (inter_visibles t c (in_set ends) told_of i j (omega (arith, rows_is, l)))

-- ---- laws: what by_release gives

pub by_none : (r x : Set) (base : ℕ) (w : List ℕ) → any_below ROWS (in_set r) ≡ false → ((j : ℕ) → in_set x j ≡ false) → (j : ℕ) → in_set x j ≡ by_first base r w j
unfolding by_first
by_none r x base w e f j = f j ∙ sym (and_false_left _ _ e)

pub by_some : {r : Set} (x y : Set) {z : Set} (base : ℕ) {i : ℕ} (w : List ℕ) → any_below ROWS (in_set r) ≡ true → First r i → ((j : ℕ) → in_set y j ≡ eqb j i) → z ≡ set_at w (base + 2 * i)
    → ((j : ℕ) → in_set x j ≡ (in_set y j or in_set z j)) → (j : ℕ) → in_set x j ≡ by_first base r w j
unfolding by_first
by_some {r} x y {z} base {i} w e f a b c j =
    c j ∙ ap (λ (d : Bool). d or in_set z j) (a j) ∙ ap (λ (d : Set). eqb j i or in_set d j) b
    ∙ ap (λ (m : ℕ). eqb j m or in_set (nth w base m) j) (sym (first_next f)) ∙ sym (and_on _ _ e)

of_some : {r z : Set} (base : ℕ) {i : ℕ} (w : List ℕ) → any_below ROWS (in_set r) ≡ true → First r i → z ≡ set_at w (base + 2 * i) → (j : ℕ) → in_set z j ≡ of_first base r w j
unfolding of_first
of_some {r} {z} base {i} w e f b j = ap (λ (d : Set). in_set d j) b ∙ ap (λ (m : ℕ). in_set (nth w base m) j) (sym (first_next f)) ∙ sym (and_on _ _ e)

-- ---- laws: joins

pub joins_none : (a : ℕ) (r : Set) (w : List ℕ) → any_below ROWS (in_set r) ≡ false → JoinsAvailable a r w w
unfolding by_first of_first
joins_none a r w e =
    record {
      rows = adds_none (λ j. and_false_left _ _ e);
      visibles = adds_none (λ j. and_false_left _ _ e);
      availables = adds_none (λ j. and_false_left _ _ e);
      frame = within_refl AVAILABLE_AT VISIBLE_VISIBLE w;
    }

pub joins_some : {a i : ℕ} {r : Set} {w u v z : List ℕ} (x y q : Set) → a < ROWS → any_below ROWS (in_set r) ≡ true → First r i
    → ((j : ℕ) → in_set x j ≡ by_first REACH_AT r w j) → y ≡ set_at w (REACH_VISIBLE + 2 * i) → q ≡ set_at w (REACH_AVAILABLE + 2 * i)
    → Stored (AVAILABLE_AT + 2 * a) (joined w (AVAILABLE_AT + 2 * a) x) w u → Stored (AVAILABLE_VISIBLE + 2 * a) (joined u (AVAILABLE_VISIBLE + 2 * a) y) u v
    → Stored (AVAILABLE_AVAILABLE + 2 * a) (joined v (AVAILABLE_AVAILABLE + 2 * a) q) v z → JoinsAvailable a r w z
joins_some {a = a} {w = w} x y q l o f g h m d e k =
    record {
      rows = adds_after l (λ b. absurd (omega (arith, b, l))) k.frame (adds_after l (λ b. absurd (omega (arith, b, l))) e.frame (adds_cong g (adds_join {base = AVAILABLE_AT} x d)));
      visibles = adds_after l (λ b. absurd (omega (arith, b, l))) k.frame (adds_before l (λ b. omega (arith, l)) d.frame (adds_cong (of_some REACH_VISIBLE w o f h) (adds_join {base = AVAILABLE_VISIBLE} y e)));
      availables = adds_before l (λ b. omega (arith, l)) d.frame (adds_before l (λ b. omega (arith, l)) e.frame (adds_cong (of_some REACH_AVAILABLE w o f m) (adds_join {base = AVAILABLE_AVAILABLE} q k)));
      frame = within_trans (within_widen AVAILABLE_AT VISIBLE_VISIBLE (omega arith) (omega (arith, l)) d.frame)
          (within_trans (within_widen AVAILABLE_AT VISIBLE_VISIBLE (omega arith) (omega (arith, l)) e.frame) (within_widen AVAILABLE_AT VISIBLE_VISIBLE (omega arith) (omega (arith, l)) k.frame));
    }

pub joins_visible : {v i : ℕ} {r : Set} {w u : List ℕ} (y : Set) → v < ROWS → any_below ROWS (in_set r) ≡ true → First r i → y ≡ set_at w (REACH_VISIBLE + 2 * i)
    → Stored (VISIBLE_VISIBLE + 2 * v) (joined w (VISIBLE_VISIBLE + 2 * v) y) w u → JoinsVisible v r w u
joins_visible {v} {w = w} y l o f h d =
    record {
      row = adds_cong (of_some REACH_VISIBLE w o f h) (adds_join {base = VISIBLE_VISIBLE} y d);
      frame = within_widen VISIBLE_VISIBLE HAPPENS_END (omega arith) (omega (arith, l)) d.frame;
    }

pub joins_visible_none : (v : ℕ) (r : Set) (w : List ℕ) → any_below ROWS (in_set r) ≡ false → JoinsVisible v r w w
unfolding of_first
joins_visible_none v r w e = record { row = adds_none (λ j. and_false_left _ _ e); frame = within_refl VISIBLE_VISIBLE HAPPENS_END w }
