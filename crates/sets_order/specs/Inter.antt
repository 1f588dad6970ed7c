-- What inter-thread order for one class set adds to happens-before, and which class sets are enough. Assumes nothing.
use Rattle.std.specs.Prelude.{◌≡◌, refl, Bool, true, false, List, ℕ, suc, ◌+◌, ◌-◌, ◌*◌, ◌≤◌, ◌<◌, eqb, ltb}
use Rattle.std.proofs.Common.{sym, ap, ◌∙◌, ⊎_elim, arith, eqb-true, eq-eqb, le-ltb}
use Rattle.finite.specs.Logic.{◌and◌, ◌or◌, bool_ext, split, and_true, and_on_right, and_false_right, or_cases, or_left, or_right, or_off}
use Rattle.finite.specs.Below.{any_below, any_in, any_out, any_cong, turn, at_one}
use Rattle.model.specs.Limits.{ROWS, CLASS_SETS}
use Rattle.model.specs.Moment.{program_order}
use Rattle.model.specs.Happens.{inter_thread}
use Rattle.model.specs.Availability.{availability_moment, visibility_moment}
use Rattle.model.specs.Table.{Table}
use Rattle.bits.specs.Within.{Within, within_refl, within_trans, within_widen}
use Rattle.model_closing.specs.Order.{available_row, visible_row}
use Rattle.sets_grids.specs.Regions.{HAPPENS, DEPENDS, REACH_AT, REACH_END}
use Rattle.sets_grids.specs.Grid.{Grid, grid_kept, grid_cong, grid_added}
use Rattle.sets_of_rows.specs.declared.Set.{Set}
use Rattle.sets_grids.specs.Given.{given_few, given_kept}
use Rattle.sets_grids.specs.Happens.{done_by, order_by, HappensBy, Leading}
use Rattle.sets_happens.specs.Adds.{none, AddsAt, AddsAvailable, AddsVisible}
use Rattle.sets_closure.specs.Widest.{widest}

-- ---- definitions

-- class set c too, class set k + 1 by k
unfoldable pub also : (ℕ → Bool) → ℕ → ℕ → Bool
also done c k = done k or eqb (suc k) c

pub record AddsInter (t : Table) (n c : ℕ) (w u : List ℕ) : Type 0 where
  pub order : (done : ℕ → Bool) → HappensBy t done n w → HappensBy t (also done c) n u
  pub depends : Grid DEPENDS n t.depends w → Grid DEPENDS n t.depends u
  pub frame : Within HAPPENS REACH_END w u

-- the class sets before c that no other stands for
unfoldable pub wide_to : Table → ℕ → ℕ → Bool
wide_to t c k = ltb (suc k) c and widest t (suc k)

-- class set c, if no other stands for it
pub record AddsWidest (t : Table) (n c : ℕ) (w u : List ℕ) : Type 0 where
  pub order : HappensBy t (wide_to t c) n w → HappensBy t (wide_to t (c + 1)) n u
  pub depends : Grid DEPENDS n t.depends w → Grid DEPENDS n t.depends u
  pub frame : Within HAPPENS REACH_END w u

-- ---- laws: one class set more

order_also : (t : Table) (done : ℕ → Bool) (c m k : ℕ) → 0 < c → c < 16 → (order_by t done m k or inter_thread t c m k) ≡ order_by t (also done c) m k
unfolding order_by done_by also
order_also t done c m k l o = bool_ext _ _ forth back
  where
    same : suc (c - 1) ≡ c
    same = omega arith

    forth : (program_order t m k or any_below CLASS_SETS (done_by t done m k) or inter_thread t c m k) ≡ true
        → (program_order t m k or any_below CLASS_SETS (done_by t (also done c) m k)) ≡ true
    forth e =
        ⊎_elim
        (λ a. ⊎_elim (λ b. or_left _ b)
        (λ b. let r = any_out (done_by t done m k) CLASS_SETS b in
        let p = split r.2 in
        or_right _ (any_in (done_by t (also done c) m k) CLASS_SETS r.0 r.1 (and_true (or_left _ p.0) p.1)))
        (or_cases _ _ a))
        (λ a. or_right _ (any_in (done_by t (also done c) m k) CLASS_SETS (c - 1) (omega arith)
        (and_true (or_right (done (c - 1)) (eq-eqb (suc (c - 1)) c same)) (ap (λ (z : ℕ). inter_thread t z m k) same ∙ a))))
        (or_cases _ _ e)

    back : (program_order t m k or any_below CLASS_SETS (done_by t (also done c) m k)) ≡ true
        → (program_order t m k or any_below CLASS_SETS (done_by t done m k) or inter_thread t c m k) ≡ true
    back e =
        ⊎_elim (λ a. or_left _ (or_left _ a))
        (λ a. let r = any_out (done_by t (also done c) m k) CLASS_SETS a in
        let p = split r.2 in
        ⊎_elim (λ b. or_left _ (or_right _ (any_in (done_by t done m k) CLASS_SETS r.0 r.1 (and_true b p.1))))
        (λ b. or_right _ (ap (λ (z : ℕ). inter_thread t z m k) (sym (eqb-true (suc r.0) c b)) ∙ p.1))
        (or_cases _ _ p.0))
        (or_cases _ _ e)

order_quiet : (t : Table) (done : ℕ → Bool) (c m k : ℕ) → 0 < c → c < 16 → (inter_thread t c m k ≡ true → program_order t m k ≡ true)
    → order_by t done m k ≡ order_by t (also done c) m k
unfolding order_by
order_quiet t done c m k l o f =
    bool_ext (order_by t done m k) (order_by t done m k or inter_thread t c m k) (λ e. or_left _ e) (λ e. ⊎_elim (λ a. a) (λ a. or_left _ (f a)) (or_cases _ _ e))
    ∙ order_also t done c m k l o

order_cong : (t : Table) (d e : ℕ → Bool) (m k : ℕ) → ((c : ℕ) → c < CLASS_SETS → d c ≡ e c) → order_by t d m k ≡ order_by t e m k
unfolding order_by done_by
order_cong t d e m k f =
    ap (λ (b : Bool). program_order t m k or b) (any_cong (done_by t d m k) (done_by t e m k) CLASS_SETS (λ c l. ap (λ (b : Bool). b and inter_thread t (suc c) m k) (f c l)))

-- relations that agree, between moments of rows
happens_cong : {t : Table} {d e : ℕ → Bool} {n : ℕ} {w : List ℕ} → t.rows ≡ n
    → ((m k : ℕ) → m < 3 * t.rows → k < 3 * t.rows → order_by t d m k ≡ order_by t e m k) → HappensBy t d n w → HappensBy t e n w
happens_cong {t} {n = n} rows f h =
    record {
      rows = grid_cong (λ i j l m. f _ _ (omega (arith, rows, l)) (omega (arith, rows, m))) h.rows;
      available_rows_lem = grid_cong (λ i j l m. f _ _ (av i l) (omega (arith, rows, m))) h.available_rows_lem;
      available_visibles_lem = grid_cong (λ i j l m. f _ _ (av i l) (vi j m)) h.available_visibles_lem;
      availables = grid_cong (λ i j l m. f _ _ (av i l) (av j m)) h.availables;
      visibles = grid_cong (λ i j l m. f _ _ (vi i l) (vi j m)) h.visibles;
    }
  where
    av : (x : ℕ) → x < n → availability_moment t x < 3 * t.rows
    av x l = let e = available_row t x in omega (arith, rows)

    vi : (x : ℕ) → x < n → visibility_moment t x < 3 * t.rows
    vi x l = let e = visible_row t x in omega (arith, rows)

pub done_cong : {t : Table} {d e : ℕ → Bool} {n : ℕ} {w : List ℕ} → t.rows ≡ n → ((c : ℕ) → c < CLASS_SETS → d c ≡ e c) → HappensBy t d n w → HappensBy t e n w
done_cong {t} {d} {e} rows f h = happens_cong rows (λ m k l o. order_cong t d e m k f) h

-- nothing was added
pub inter_quiet : {t : Table} {n c : ℕ} {w : List ℕ} → t.rows ≡ n → 0 < c → c < 16
    → ((m k : ℕ) → m < 3 * t.rows → k < 3 * t.rows → inter_thread t c m k ≡ true → program_order t m k ≡ true) → AddsInter t n c w w
inter_quiet {t} {c = c} {w = w} rows low high f =
    record { order = λ done h. happens_cong rows (λ m k l o. order_quiet t done c m k low high (f m k l o)) h; depends = λ g. g; frame = within_refl HAPPENS REACH_END w }

pub inter_added : {t : Table} {n c : ℕ} {w u v z y : List ℕ} → n ≤ ROWS → 0 < c → c < 16 → Within REACH_AT REACH_END w u → AddsAt t n c u v → AddsAvailable t n c v z
    → AddsVisible t n c z y → AddsInter t n c w y
inter_added {t} {n} {c} few low high r a b d =
    record {
      order = λ done h.
          record {
            rows = grid_cong (λ i j l m. order_also t done c _ _ low high)
                (grid_kept (λ o. absurd (omega (arith, o, few))) d.frame (grid_kept (λ o. absurd (omega (arith, o, few))) b.rows.frame
                (grid_added (grid_kept (λ o. absurd (omega (arith, o, few))) r h.rows) a)));
            available_rows_lem = grid_cong (λ i j l m. order_also t done c _ _ low high)
                (grid_kept (λ o. absurd (omega (arith, o, few))) d.frame
                (grid_added (grid_kept (λ o. omega arith) a.frame (grid_kept (λ o. absurd (omega (arith, o, few))) r h.available_rows_lem)) b.rows));
            available_visibles_lem = grid_cong (λ i j l m. order_also t done c _ _ low high)
                (grid_kept (λ o. absurd (omega (arith, o, few))) d.frame
                (grid_added (grid_kept (λ o. omega arith) a.frame (grid_kept (λ o. absurd (omega (arith, o, few))) r h.available_visibles_lem)) b.visibles));
            availables = grid_cong (λ i j l m. order_also t done c _ _ low high)
                (grid_kept (λ o. absurd (omega (arith, o, few))) d.frame
                (grid_added (grid_kept (λ o. omega arith) a.frame (grid_kept (λ o. absurd (omega (arith, o, few))) r h.availables)) b.availables));
            visibles = grid_cong (λ i j l m. order_also t done c _ _ low high)
                (grid_added (grid_kept (λ o. omega arith) b.rows.frame (grid_kept (λ o. omega arith) a.frame
                (grid_kept (λ o. absurd (omega (arith, o, few))) r h.visibles))) d);
          };
      depends = λ g.
          grid_kept (λ o. omega arith) d.frame (grid_kept (λ o. omega arith) b.rows.frame (grid_kept (λ o. omega arith) a.frame
          (grid_kept (λ o. absurd (omega (arith, o, few))) r g)));
      frame = within_trans (within_widen HAPPENS REACH_END (omega arith) (omega arith) r)
          (within_trans (within_widen HAPPENS REACH_END (omega arith) (omega arith) a.frame)
          (within_trans (within_widen HAPPENS REACH_END (omega arith) (omega arith) b.rows.frame) (within_widen HAPPENS REACH_END (omega arith) (omega arith) d.frame)));
    }

-- ---- laws: the class sets that no other stands for

pub wide_none : (t : Table) (k : ℕ) → none k ≡ wide_to t 1 k
unfolding none wide_to ◌and◌
wide_none t k = ap (λ (b : Bool). b and widest t (suc k)) (sym (le-ltb (suc k) 1 (omega arith)))

pub wide_more : (t : Table) (c k : ℕ) → widest t c ≡ true → also (wide_to t c) c k ≡ wide_to t (c + 1) k
unfolding also wide_to
wide_more t c k e =
    ap (λ (b : Bool). (ltb (suc k) c and widest t (suc k)) or b)
    (sym (and_on_right (eqb (suc k) c) true refl) ∙ at_one (suc k) c true (widest t (suc k)) (λ q. sym (ap (widest t) q ∙ e)))
    ∙ turn (suc k) c (widest t (suc k))

pub wide_less : (t : Table) (c k : ℕ) → widest t c ≡ false → wide_to t c k ≡ wide_to t (c + 1) k
unfolding wide_to
wide_less t c k e =
    sym (or_off (ltb (suc k) c and widest t (suc k)) (eqb (suc k) c and widest t (suc k))
    (at_one (suc k) c (widest t (suc k)) false (λ q. ap (widest t) q ∙ e) ∙ and_false_right (eqb (suc k) c) false refl))
    ∙ turn (suc k) c (widest t (suc k))

pub widest_off : {t : Table} {n c : ℕ} {w : List ℕ} → t.rows ≡ n → widest t c ≡ false → AddsWidest t n c w w
widest_off {t} {c = c} {w = w} rows e = record { order = λ h. done_cong rows (λ k l. wide_less t c k e) h; depends = λ g. g; frame = within_refl HAPPENS REACH_END w }

pub widest_on : {t : Table} {n c : ℕ} {w u : List ℕ} → t.rows ≡ n → widest t c ≡ true → AddsInter t n c w u → AddsWidest t n c w u
widest_on {t} {c = c} rows e a = record { order = λ h. done_cong rows (λ k l. wide_more t c k e) (a.order (wide_to t c) h); depends = a.depends; frame = a.frame }

-- what it is made from stays so
pub leading_kept : {t : Table} {n : ℕ} {ends : Set} {s w u : List ℕ} → Within HAPPENS REACH_END w u → Grid DEPENDS n t.depends u → Leading t n ends s w → Leading t n ends s u
leading_kept f d g =
    let few = given_few g.given in
    record { given = given_kept f g.given; told = g.told; syncs = grid_kept (λ o. absurd (omega (arith, o, few))) f g.syncs; depends = d }
