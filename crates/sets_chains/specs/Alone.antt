-- Which operations happen, rows by their scopes, and what one availability operation makes available by itself. Assumes nothing.
use Rattle.std.specs.Prelude.{◌≡◌, refl, Bool, false, List, ℕ, suc, ◌+◌, ◌*◌, ◌/◌, ◌≤◌, ◌<◌}
use Rattle.std.proofs.Math.Path.{sym}
use Rattle.std.proofs.Common.{ap, ◌∙◌}
use Rattle.std.proofs.Math.Bool.{true}
use Rattle.std.proofs.Math.Logic.{⊎_elim}
use native.Mathlib.Omega.{arith}
use Rattle.std.proofs.Math.Decide.{ℕ_discrete}
use Rattle.std.proofs.Math.Dec.{eqb, ltb}
use borrow.Author.Tests.{eqb-true, eq-eqb, ltb-true, lt-ltb}
use Rattle.finite.specs.Logic.{◌and◌, ◌or◌, bool_ext, split, and_true, or_cases, or_left, or_right, not_both}
use Rattle.finite.specs.Below.{any_out}
use Rattle.model.specs.Limits.{ROWS, CLASS_SETS}
use Rattle.model.specs.Moment.{moment}
use Rattle.model.specs.Happens.{inter_thread_by, happens}
use Rattle.model.specs.Availability.{availability_moment, visibility_moment}
use Rattle.model.specs.Table.{Table}
use Rattle.bits.specs.Within.{Within, within_trans, within_widen}
use Rattle.model_closing.specs.Order.{order_parts, available_row, visible_row, available_moment, visible_moment}
use Rattle.model_closing.specs.Page.{inter_moments}
use Rattle.model_placing.specs.Shares.{share, hears}
use Rattle.model_placing.specs.Leads.{meets, shows, available_scope}
use Rattle.model_placing.specs.Elements.{avails, shews, available_is, visible_is}
use Rattle.model_placing.specs.Chains.{meets_alone, shows_alone, meets_alone_lem, shows_alone_lem}
use Rattle.sets_of_rows.specs.declared.Set.{Set}
use Rattle.sets_of_rows.specs.Member.{in_set}
use Rattle.sets_of_rows.specs.Kept.{set_at, set_kept, Stored}
use Rattle.sets_of_rows.specs.Family.{nth}
use Rattle.sets_of_rows.specs.Rows.{Rows, rows_at, rows_cong, rows_none, rows_and, rows_or}
use Rattle.sets_of_table.specs.Says.{says_scope}
use Rattle.sets_of_table.specs.Known.{Opened, says_rows}
use Rattle.sets_grids.specs.Regions.{AVAILABLE_AT, AVAILABLE_VISIBLE, AVAILABLE_TO, VISIBLE_BY, VISIBLE_BY_END}
use Rattle.sets_grids.specs.Grid.{Grid, grid_kept}
use Rattle.sets_grids.specs.Happens.{available_rows, available_visibles}
use Rattle.sets_grids.specs.Available.{makes, shown_to}

-- ---- definitions

-- row j is of a scope broader than q; and narrower than k
unfoldable pub wider : Table → ℕ → ℕ → Bool
wider t q j = ltb q (t.row j).scope

unfoldable pub between : Table → ℕ → ℕ → ℕ → Bool
between t q k j = ltb q (t.row j).scope and ltb (t.row j).scope k

-- what comes after an availability operation
pub record After (t : Table) (n : ℕ) (w : List ℕ) : Type 0 where
  pub rows : Grid AVAILABLE_AT n (available_rows t) w
  pub visibles : Grid AVAILABLE_VISIBLE n (available_visibles t) w

-- row a's two sets were made; no other row's changed
pub record MadeOne (t : Table) (n a : ℕ) (w u : List ℕ) : Type 0 where
  pub to : Rows n (meets t a) (nth u AVAILABLE_TO a)
  pub by : Rows n (shown_to t a) (nth u VISIBLE_BY a)
  pub kept_to : (k : ℕ) → k < ROWS → (k ≡ a → ⊥) → nth u AVAILABLE_TO k ≡ nth w AVAILABLE_TO k
  pub kept_by_lem : (k : ℕ) → k < ROWS → (k ≡ a → ⊥) → nth u VISIBLE_BY k ≡ nth w VISIBLE_BY k
  pub frame : Within AVAILABLE_TO VISIBLE_BY_END w u

-- ---- laws: which operations happen

inside : (m a n : ℕ) → m / 3 ≡ a → a < n → m < 3 * n
inside m a n e l = omega arith

module _ (t : Table) where
  happens_moments : (m k : ℕ) → m < 3 * t.rows → k < 3 * t.rows → happens t m k ≡ true → (moment t m ≡ true) × (moment t k ≡ true)
  unfolding happens inter_thread_by
  happens_moments m k l o e =
      ⊎_elim (λ a. let b = order_parts t m k a in (b.2, b.3))
      (λ a. let r = any_out (inter_thread_by t m k) CLASS_SETS a in inter_moments t (suc r.0) m k l o r.2) (or_cases _ _ e)

  pub available_to_shown : (a v : ℕ) → a < t.rows → v < t.rows → happens t (availability_moment t a) (visibility_moment t v) ≡ true → shews (t.row v) ≡ true
  available_to_shown a v l o e =
      sym (visible_is t v) ∙ sym (visible_moment t v o)
      ∙ (happens_moments (availability_moment t a) (visibility_moment t v) (inside _ a t.rows (available_row t a) l) (inside _ v t.rows (visible_row t v) o) e).1

  pub available_to_available : (a c : ℕ) → a < t.rows → c < t.rows → happens t (availability_moment t a) (availability_moment t c) ≡ true → avails (t.row c) ≡ true
  available_to_available a c l o e =
      sym (available_is t c) ∙ sym (available_moment t c o)
      ∙ (happens_moments (availability_moment t a) (availability_moment t c) (inside _ a t.rows (available_row t a) l) (inside _ c t.rows (available_row t c) o) e).1

-- ---- laws: rows by scope

scope_at : (s : List ℕ) (k : ℕ) {x : Set} → x ≡ set_at s (104 + 2 * k) → x ≡ nth s 0 (52 + k)
scope_at s k e = e ∙ ap (set_at s) (let g : 104 + 2 * k ≡ 0 + 2 * (52 + k) = omega arith in g)

-- those of one scope
pub scope_rows : {t : Table} {n : ℕ} {s : List ℕ} {x : Set} (k : ℕ) → Opened t n s → k < 8 → x ≡ set_at s (104 + 2 * k) → Rows n (λ j. eqb (t.row j).scope k) x
scope_rows {s = s} k o l e = rows_at (scope_at s k e) (says_rows (says_scope o.known.tested.ground k l))

module _ (t : Table) (n q : ℕ) where
  pub between_none : {x : Set} → ((j : ℕ) → in_set x j ≡ false) → Rows n (between t q (q + 1)) x
  unfolding between
  between_none e =
      rows_cong (λ j l. bool_ext _ _ (λ f. not_both f refl)
      (λ f. let g = split f in let a = ltb-true q (t.row j).scope g.0 in let b = ltb-true (t.row j).scope (q + 1) g.1 in absurd (omega arith))) (rows_none e)

  pub between_more : {s : List ℕ} {x y z : Set} (k : ℕ) → Opened t n s → q + 1 ≤ k → k < 8 → Rows n (between t q k) x → y ≡ set_at s (104 + 2 * k)
      → ((j : ℕ) → in_set z j ≡ (in_set x j or in_set y j)) → Rows n (between t q (k + 1)) z
  unfolding between
  between_more k o low high h e f = rows_cong (λ j l. bool_ext _ _ (forth j) (back j)) (rows_or h (scope_rows k o high e) f)
    where
      forth : (j : ℕ) → ((ltb q (t.row j).scope and ltb (t.row j).scope k) or eqb (t.row j).scope k) ≡ true
          → (ltb q (t.row j).scope and ltb (t.row j).scope (k + 1)) ≡ true
      forth j e =
          ⊎_elim (λ a. let b = split a in let c = ltb-true (t.row j).scope k b.1 in and_true b.0 (lt-ltb (t.row j).scope (k + 1) (omega arith)))
          (λ a. let c = eqb-true (t.row j).scope k a in and_true (lt-ltb q (t.row j).scope (omega arith)) (lt-ltb (t.row j).scope (k + 1) (omega arith)))
          (or_cases _ _ e)

      back : (j : ℕ) → (ltb q (t.row j).scope and ltb (t.row j).scope (k + 1)) ≡ true
          → ((ltb q (t.row j).scope and ltb (t.row j).scope k) or eqb (t.row j).scope k) ≡ true
      back j e = let a = split e in let b = ltb-true (t.row j).scope (k + 1) a.1 in go a b (ℕ_discrete (t.row j).scope k)
        where
          go : (ltb q (t.row j).scope ≡ true) × (ltb (t.row j).scope (k + 1) ≡ true) → (t.row j).scope < k + 1 → Dec ((t.row j).scope ≡ k)
              → ((ltb q (t.row j).scope and ltb (t.row j).scope k) or eqb (t.row j).scope k) ≡ true
          go a b (yes d) = or_right _ (eq-eqb _ _ d)
          go a b (no d) = or_left _ (and_true a.0 (lt-ltb (t.row j).scope k (omega arith)))

  pub between_all : {s : List ℕ} {x : Set} (k : ℕ) → Opened t n s → 5 ≤ k → Rows n (between t q k) x → Rows n (wider t q) x
  unfolding between wider
  between_all k o high h =
      rows_cong (λ j l. bool_ext _ _ (λ e. (split e).0)
      (λ e. let r = o.rows in let d = o.fit.scoped j (omega arith) in and_true e (lt-ltb (t.row j).scope k (omega arith)))) h

-- ---- laws: one operation

turn : (a b : Bool) → (a and b) ≡ (b and a)
turn a b = bool_ext _ _ (λ e. and_true (split e).1 (split e).0) (λ e. and_true (split e).1 (split e).0)

module _ (t : Table) {n : ℕ} {s : List ℕ} (a : ℕ) (o : Opened t n s) (l : a < n) (m : makes t a ≡ true) where
  there : a < t.rows
  there = let r = o.rows in omega (arith, l)

  pub made_scope : 1 ≤ (t.row a).scope
  unfolding makes
  made_scope = available_scope t a (available_is t a ∙ m)

  module _ (off : t.chains ≡ false) where
    pub alone_to : {x r z : Set} → Rows n (available_rows t a) x → Rows n (share t (t.row a).agent (t.row a).scope) r
        → ((j : ℕ) → in_set z j ≡ (in_set x j and in_set r j)) → Rows n (meets t a) z
    unfolding available_rows meets_alone
    alone_to f g e = rows_cong (λ j k. turn _ _ ∙ sym (meets_alone_lem t o.fit.scoped off a j there made_scope)) (rows_and f g e)

    pub alone_by : {x r h z : Set} (b : Set) → Rows n (available_visibles t a) x → Rows n (share t (t.row a).agent (t.row a).scope) r
        → Rows n (hears t (t.row a).agent) h → ((j : ℕ) → in_set b j ≡ (in_set r j and in_set h j))
        → ((j : ℕ) → in_set z j ≡ (in_set x j and in_set b j)) → Rows n (shown_to t a) z
    unfolding available_visibles shown_to shows_alone
    alone_by b f g h d e = rows_cong (λ j k. bool_ext _ _ (forth j k) (back j k)) (rows_and f (rows_and g h d) e)
      where
        last : (j : ℕ) → j < n → j < t.rows
        last j k = let r = o.rows in omega arith

        forth : (j : ℕ) → j < n
            → (happens t (availability_moment t a) (visibility_moment t j) and (share t (t.row a).agent (t.row a).scope j and hears t (t.row a).agent j)) ≡ true
            → (shews (t.row j) and shows t a j) ≡ true
        forth j k e =
            let q = split e in
            let v = available_to_shown t a j there (last j k) q.0 in
            and_true v (shows_alone_lem t o.fit.scoped off a j there (last j k) made_scope (visible_is t j ∙ v) ∙ and_true q.1 q.0)

        back : (j : ℕ) → j < n → (shews (t.row j) and shows t a j) ≡ true
            → (happens t (availability_moment t a) (visibility_moment t j) and (share t (t.row a).agent (t.row a).scope j and hears t (t.row a).agent j)) ≡ true
        back j k e =
            let v = split e in
            let q = split (sym (shows_alone_lem t o.fit.scoped off a j there (last j k) made_scope (visible_is t j ∙ v.0)) ∙ v.1) in
            and_true q.1 q.0

-- two sets that were put
pub made_one : {t : Table} {n a : ℕ} {w v u : List ℕ} {x y : Set} → a < ROWS → Rows n (meets t a) x → Rows n (shown_to t a) y
    → Stored (AVAILABLE_TO + 2 * a) (in_set x) w v → Stored (VISIBLE_BY + 2 * a) (in_set y) v u → MadeOne t n a w u
made_one {t} {n} {a} {w} {v} {u} {x} {y} l f g p q =
    record {
      to = record { is = λ j. ap (λ (z : Set). in_set z j) (set_kept (AVAILABLE_TO + 2 * a) (λ h. omega arith) q.frame) ∙ p.is j ∙ f.is j };
      by = record { is = λ j. q.is j ∙ g.is j };
      kept_to = λ k b d. set_kept (AVAILABLE_TO + 2 * k) (λ h. omega arith) q.frame ∙ set_kept (AVAILABLE_TO + 2 * k) (λ h. omega (arith, d)) p.frame;
      kept_by_lem = λ k b d. set_kept (VISIBLE_BY + 2 * k) (λ h. omega (arith, d)) q.frame ∙ set_kept (VISIBLE_BY + 2 * k) (λ h. omega arith) p.frame;
      frame =
          within_trans (within_widen AVAILABLE_TO VISIBLE_BY_END (omega arith) (omega arith) p.frame)
          (within_widen AVAILABLE_TO VISIBLE_BY_END (omega arith) (omega arith) q.frame);
    }

-- a change elsewhere
pub after_kept : {t : Table} {n c d : ℕ} {w u : List ℕ} → n ≤ ROWS → AVAILABLE_VISIBLE + 256 ≤ c → Within c d w u → After t n w → After t n u
after_kept few l f h = record { rows = grid_kept (λ o. omega arith) f h.rows; visibles = grid_kept (λ o. omega arith) f h.visibles }
