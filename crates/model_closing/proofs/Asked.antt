-- What is asked of happens-before is what the sets of rows that nodes have got say: the theorems of specs/Asked.antt. For any table
-- and any number of rows. Assumes nothing.
use Rattle.std.specs.Prelude.{◌≡◌, Bool, ◌⊎◌, ℕ, ◌+◌, ◌*◌, ◌%◌, ◌≤◌, ◌<◌}
use Rattle.std.proofs.Math.Path.{refl, sym, ap, ap₂}
use Rattle.std.proofs.Common.{◌∙◌, inl, inr, arith}
use Rattle.std.proofs.Math.Bool.{true, false, cond}
use Rattle.std.proofs.Math.Decide.{ℕ_discrete}
use Rattle.std.proofs.Math.Dec.{eqb, ltb}
use borrow.Author.Tests.{eqb-true, eq-eqb, ltb-true, lt-ltb, le-ltb, leb-true, le-leb}
use Rattle.finite.specs.Logic.{◌and◌, ◌or◌, which, bool_ext, not_both, not_so, not_out, split, and_on, and_on_right, and_false_left}
use Rattle.finite.specs.Logic.{and_false_right}
use Rattle.finite.specs.Below.{least_cong, least_off}
use Rattle.model.specs.Row.{plain, meets}
use Rattle.model.specs.Table.{Table}
use Rattle.model.specs.Moment.{AT, part, itself, availability, visibility, classes_of, same_agent, program_order}
use Rattle.model.specs.Availability.{availability_moment, visibility_moment}
use Rattle.model.specs.Happens.{concerns, inter_thread}
use Rattle.model_closing.specs.Tests.{or_off_left, and_under, and_assoc}
use Rattle.model_closing.specs.Order.{own_row, later_row, from_row, available_off, visible_off, order_available_at, order_visible_at}
use Rattle.model_closing.specs.Nodes.{releaser, node, node_moment, passes_behind, first_behind, first_release, from_source, inter_source}
use Rattle.model_closing.specs.Direct.{takes_part, available_for, visible_for, holder_is, concerns_at, concerns_available, concerns_visible}
use Rattle.model_closing.specs.Sets.{reached_at, reached_available, reached_visible, passes_later, next_release, of_next, next_release_lem}
use Rattle.model_closing.specs.Asked.{leads, next_or_of, releases_from, release_from, from_rows_of, from_available_at, from_available}
use Rattle.model_closing.specs.Asked.{from_visible, asked_at, asked_available_at, asked_available_visible, asked_availables, asked_visibles}

-- ---- laws: a class set

off_moment : (t : Table) (s : ℕ) (ends : ℕ → Bool) (h : ℕ) → node t ends s h ≡ false → node_moment t ends s (itself h) ≡ false
unfolding node_moment
off_moment t s ends h e = and_false_right _ _ (rw (own_row h) e)

-- ---- laws: places of moments

eqb_own : (r y : ℕ) → eqb (itself r) (itself y) ≡ eqb r y
eqb_own r y =
    bool_ext _ _ (λ e. let d = eqb-true (3 * r + 1) (3 * y + 1) e in eq-eqb r y (omega arith))
    (λ e. let d = eqb-true r y e in eq-eqb (3 * r + 1) (3 * y + 1) (omega arith))

eqb_off : (r m : ℕ) → eqb (part m) AT ≡ false → eqb (itself r) m ≡ false
eqb_off r m off = not_so _ (λ e. let d = eqb-true (3 * r + 1) m e in not_both (eq-eqb (m % 3) 1 (omega arith)) off)

-- ---- laws: a class set

module _ (t : Table) (s : ℕ) where
  -- ---- the first release row behind a source

  first_behind_off : (m : ℕ) → ((j : ℕ) → j < t.rows → program_order t m (itself j) ≡ false) → ltb (first_release t s m) t.rows ≡ false
  unfolding first_release first_behind passes_behind
  first_behind_off m f =
      ap (λ (n : ℕ). ltb n t.rows)
      (least_off (λ j. releaser t s j and program_order t m (itself j)) t.rows (λ j l. and_false_right _ _ (f j l)))
      ∙ le-ltb t.rows t.rows (omega arith)

  first_available_lem : (a : ℕ) → a < t.rows → availability t (availability_moment t a) ≡ true → first_release t s (availability_moment t a) ≡ release_from t s a
  unfolding first_release first_behind passes_behind release_from releases_from
  first_available_lem a l e =
      least_cong (λ j. releaser t s j and program_order t (availability_moment t a) (itself j))
      (λ j. releaser t s j and cond (plain (t.row a)) (later_row t a j) (from_row t a j)) t.rows
      (λ j o. ap (λ (b : Bool). releaser t s j and b) (order_available_at t a j l o ∙ and_on_right _ _ e))

  -- a release row is not plain
  releaser_kind : (j : ℕ) → releaser t s j ≡ true → plain (t.row j) ≡ false
  unfolding releaser
  releaser_kind j e = not_out (plain (t.row j)) (split (sym (holder_is t s j) ∙ (split e).0)).0

  from_later : (w j : ℕ) → releaser t s j ≡ true → (plain (t.row w) ≡ true) ⊎ (plain (t.row w) ≡ false)
      → cond (plain (t.row w)) (from_row t w j) (later_row t w j) ≡ later_row t w j
  unfolding from_row later_row
  from_later w j r (inr p) = rw p refl
  from_later w j r (inl p) = rw p (ap (λ (b : Bool). b and same_agent t w j) (bool_ext _ _ (λ e. go (leb-true w j e) (ℕ_discrete w j))
      (λ e. let l = ltb-true w j e in le-leb w j (omega arith))))
    where
      go : w ≤ j → Dec (w ≡ j) → ltb w j ≡ true
      go l (yes d) = not_both p (rw d (releaser_kind j r))
      go l (no d) = lt-ltb w j (omega arith)

  first_visible : (w : ℕ) → w < t.rows → visibility t (visibility_moment t w) ≡ true → first_release t s (visibility_moment t w) ≡ next_release t s w
  unfolding first_release first_behind passes_behind next_release passes_later
  first_visible w l e =
      least_cong (λ j. releaser t s j and program_order t (visibility_moment t w) (itself j)) (λ j. releaser t s j and later_row t w j) t.rows
      (λ j o. and_under _ _ _ (λ r. order_visible_at t w j l o ∙ and_on_right _ _ e ∙ from_later w j r (which (plain (t.row w)))))

  -- a source that is an availability moment, a visibility moment; X is what is asked of its first release row
  source_available : (a : ℕ) (X : ℕ → Bool) → a < t.rows
      → (concerns t s (availability_moment t a) and ltb (first_release t s (availability_moment t a)) t.rows and X (first_release t s (availability_moment t a)))
      ≡ (available_for t s a and (ltb (release_from t s a) t.rows and X (release_from t s a)))
  unfolding available_for
  source_available a X l = go (which (availability t (availability_moment t a)))
    where
      go : (availability t (availability_moment t a) ≡ true) ⊎ (availability t (availability_moment t a) ≡ false)
          → (concerns t s (availability_moment t a) and ltb (first_release t s (availability_moment t a)) t.rows and X (first_release t s (availability_moment t a)))
          ≡ (availability t (availability_moment t a) and meets (classes_of (t.row a)) s and (ltb (release_from t s a) t.rows and X (release_from t s a)))
      go (inl e) =
          and_assoc _ _ _
          ∙ ap₂ (λ (b : Bool) (n : ℕ). b and (ltb n t.rows and X n)) (concerns_available t s a ∙ sym (and_on _ _ e)) (first_available_lem a l e)
      go (inr e) =
          and_false_left _ _ (and_false_right _ _
          (first_behind_off (availability_moment t a) (λ j o. order_available_at t a j l o ∙ and_false_right _ _ e)))
          ∙ sym (and_false_left _ _ (and_false_left _ _ e))

  source_visible : (w : ℕ) (X : ℕ → Bool) → w < t.rows
      → (concerns t s (visibility_moment t w) and ltb (first_release t s (visibility_moment t w)) t.rows and X (first_release t s (visibility_moment t w)))
      ≡ (visible_for t s w and (ltb (next_release t s w) t.rows and X (next_release t s w)))
  unfolding visible_for
  source_visible w X l = go (which (visibility t (visibility_moment t w)))
    where
      go : (visibility t (visibility_moment t w) ≡ true) ⊎ (visibility t (visibility_moment t w) ≡ false)
          → (concerns t s (visibility_moment t w) and ltb (first_release t s (visibility_moment t w)) t.rows and X (first_release t s (visibility_moment t w)))
          ≡ (visibility t (visibility_moment t w) and meets (classes_of (t.row w)) s and (ltb (next_release t s w) t.rows and X (next_release t s w)))
      go (inl e) =
          and_assoc _ _ _
          ∙ ap₂ (λ (b : Bool) (n : ℕ). b and (ltb n t.rows and X n)) (concerns_visible t s w ∙ sym (and_on _ _ e)) (first_visible w l e)
      go (inr e) =
          and_false_left _ _ (and_false_right _ _
          (first_behind_off (visibility_moment t w) (λ j o. order_visible_at t w j l o ∙ and_false_right _ _ e)))
          ∙ sym (and_false_left _ _ (and_false_left _ _ e))

  source_at : (x y : ℕ) → x < t.rows → from_source t s (leads t s) (itself x) (itself y) ≡ (takes_part t s x and next_or_of t (reached_at t s) (next_release t s x) y)
  unfolding from_source next_or_of reached_at
  source_at x y l =
      and_assoc _ _ _
      ∙ ap₂ (λ (b : Bool) (n : ℕ). b and (ltb n t.rows and (eqb (itself n) (itself y) or inter_thread t s (itself n) (itself y)))) (concerns_at t s x) (next_release_lem t s x l)
      ∙ ap (λ (b : Bool). takes_part t s x and (ltb (next_release t s x) t.rows and (b or inter_thread t s (itself (next_release t s x)) (itself y))))
      (eqb_own (next_release t s x) y)

  -- ---- inter-thread order between what is asked

  module _ (ends : ℕ → Bool) (told : (a b : ℕ) → t.depends a b ≡ true → (ends a ≡ true) × (ends b ≡ true)) where
    off_node : (m : ℕ) → eqb (part m) AT ≡ false → node_moment t ends s m ≡ false
    unfolding node_moment
    off_node m off = and_false_left _ _ off

    pub inter_at : (x y : ℕ) → x < t.rows → inter_thread t s (itself x) (itself y) ≡ asked_at t ends s x y
    unfolding asked_at from_rows_of reached_at next_or_of
    inter_at x y l = go (which (node t ends s x))
      where
        go : (node t ends s x ≡ true) ⊎ (node t ends s x ≡ false)
            → inter_thread t s (itself x) (itself y)
            ≡ cond (node t ends s x) (inter_thread t s (itself x) (itself y)) (takes_part t s x and next_or_of t (reached_at t s) (next_release t s x) y)
        go (inl e) = rw e refl
        go (inr e) = rw e (other (off_moment t s ends x e))
          where
            other : node_moment t ends s (itself x) ≡ false
                → inter_thread t s (itself x) (itself y) ≡ (takes_part t s x and next_or_of t (reached_at t s) (next_release t s x) y)
            other off = inter_source t s ends told (itself x) (itself y) off ∙ source_at x y l

    pub inter_available_at : (a y : ℕ) → a < t.rows → inter_thread t s (availability_moment t a) (itself y) ≡ asked_available_at t s a y
    unfolding asked_available_at from_available_at next_or_of reached_at from_source
    inter_available_at a y l =
        inter_source t s ends told (availability_moment t a) (itself y) (off_node _ (available_off t a))
        ∙ source_available a (λ r. eqb (itself r) (itself y) or inter_thread t s (itself r) (itself y)) l
        ∙ ap (λ (b : Bool). available_for t s a and (ltb (release_from t s a) t.rows and (b or inter_thread t s (itself (release_from t s a)) (itself y))))
        (eqb_own (release_from t s a) y)

    -- to a moment that is no row's own
    inter_available_off : (a m : ℕ) → a < t.rows → eqb (part m) AT ≡ false
        → inter_thread t s (availability_moment t a) m ≡ (available_for t s a and (ltb (release_from t s a) t.rows and inter_thread t s (itself (release_from t s a)) m))
    unfolding from_source
    inter_available_off a m l off =
        inter_source t s ends told (availability_moment t a) m (off_node _ (available_off t a))
        ∙ source_available a (λ r. eqb (itself r) m or inter_thread t s (itself r) m) l
        ∙ ap (λ (b : Bool). available_for t s a and (ltb (release_from t s a) t.rows and b)) (or_off_left _ _ (eqb_off (release_from t s a) m off))

    pub inter_available_visible : (a v : ℕ) → a < t.rows → inter_thread t s (availability_moment t a) (visibility_moment t v) ≡ asked_available_visible t s a v
    unfolding asked_available_visible from_available of_next reached_visible
    inter_available_visible a v l = inter_available_off a (visibility_moment t v) l (visible_off t v)

    pub inter_availables : (a c : ℕ) → a < t.rows → inter_thread t s (availability_moment t a) (availability_moment t c) ≡ asked_availables t s a c
    unfolding asked_availables from_available of_next reached_available
    inter_availables a c l = inter_available_off a (availability_moment t c) l (available_off t c)

    pub inter_visibles : (w v : ℕ) → w < t.rows → inter_thread t s (visibility_moment t w) (visibility_moment t v) ≡ asked_visibles t s w v
    unfolding asked_visibles from_visible of_next reached_visible from_source
    inter_visibles w v l =
        inter_source t s ends told (visibility_moment t w) (visibility_moment t v) (off_node _ (visible_off t w))
        ∙ source_visible w (λ r. eqb (itself r) (visibility_moment t v) or inter_thread t s (itself r) (visibility_moment t v)) l
        ∙ ap (λ (b : Bool). visible_for t s w and (ltb (next_release t s w) t.rows and b)) (or_off_left _ _ (eqb_off (next_release t s w) _ (visible_off t v)))
