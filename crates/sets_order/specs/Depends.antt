-- The dependencies that were put, one after the other. Assumes nothing.
use Rattle.std.specs.Prelude.{◌≡◌, refl, Bool, true, false, List, ◌⊎◌, ℕ, suc, ◌+◌, ◌*◌, ◌≤◌, ◌<◌, get_or, eqb}
use Rattle.std.proofs.Common.{sym, ap, ap₂, ◌∙◌, inl, inr, ⊎_elim, arith, add-one, eqb-true, eq-eqb, lt-ltb}
use Rattle.std.proofs.Math.Decide.{ℕ_discrete}
use Rattle.finite.specs.Logic.{◌and◌, ◌or◌, bool_ext, not_both, not_so, split, and_true, and_false_left, or_cases, or_left, or_right, or_off}
use Rattle.finite.specs.Below.{any_below, any_in, any_out, below_cases}
use Rattle.model.specs.Limits.{ROWS}
use Rattle.model.specs.Table.{dependency, depends_of, decode}
use Rattle.bits.specs.Within.{Within}
use Rattle.run.specs.Layout.{table_in, mode_in}
use Rattle.sets_of_rows.specs.declared.Set.{Set}
use Rattle.sets_of_rows.specs.Member.{in_set}
use Rattle.sets_of_rows.specs.Kept.{set_kept, Stored, added}
use Rattle.sets_of_rows.specs.Family.{nth}
use Rattle.sets_of_table.specs.Fit.{FitRun}
use Rattle.sets_grids.specs.Regions.{DEPENDS, DEPENDS_END}
use Rattle.sets_happens.specs.Adding.{Empty}
use Rattle.sets_order.specs.System.{MadeDepends}

-- ---- definitions

unfoldable pub pair_at : List ℕ → List ℕ → ℕ → ℕ → ℕ → Bool
pair_at f s x y k = eqb (get_or f k 0) x and eqb (get_or s k 0) y

pub record DependsTo (n : ℕ) (f s : List ℕ) (m : ℕ) (ends : Set) (u : List ℕ) : Type 0 where
  pub row : (x y : ℕ) → x < ROWS → in_set (nth u DEPENDS x) y ≡ any_below m (pair_at f s x y)
  pub told : (k : ℕ) → k < m → (in_set ends (get_or f k 0) ≡ true) × (in_set ends (get_or s k 0) ≡ true)
  pub only : (j : ℕ) → in_set ends j ≡ true → j < n

-- ---- laws

any_more : (m : ℕ) (p : ℕ → Bool) → (any_below m p or p m) ≡ any_below (m + 1) p
unfolding any_below
any_more m p = rw add-one refl

any_zero : (p : ℕ → Bool) → false ≡ any_below 0 p
unfolding any_below
any_zero p = refl

pub depends_begin : (n : ℕ) (f s : List ℕ) (ends : Set) (u : List ℕ) → Empty DEPENDS u → ((j : ℕ) → in_set ends j ≡ false) → DependsTo n f s 0 ends u
depends_begin n f s ends u e none =
    record { row = λ x y l. e.is x y l ∙ any_zero _; told = λ k l. absurd (omega arith); only = λ j d. not_both d (none j) }

pub depends_turn : {n k x y : ℕ} {f s w u : List ℕ} {ends : Set} (a b d e : Set) → x ≡ get_or f k 0 → y ≡ get_or s k 0 → x < n → y < n → n ≤ ROWS → DependsTo n f s k ends w
    → Stored (DEPENDS + 2 * x) (added w (DEPENDS + 2 * x) y) w u → ((j : ℕ) → in_set a j ≡ eqb j x) → ((j : ℕ) → in_set b j ≡ eqb j y)
    → ((j : ℕ) → in_set d j ≡ (in_set a j or in_set b j)) → ((j : ℕ) → in_set e j ≡ (in_set ends j or in_set d j)) → DependsTo n f s (k + 1) e u
unfolding pair_at added
depends_turn {n} {k} {x} {y} {f} {s} {w} {u} {ends} a b d e ex ey lx ly few inv p ia ib id ie =
    record { row = λ z j l. rows z j l (ℕ_discrete z x) ∙ any_more k (pair_at f s z j); told = λ i l. tell i l (below_cases (at i l)); only = one }
  where
    at : (i : ℕ) → i < k + 1 → i < suc k
    at i l = omega arith

    last : (j : ℕ) → eqb j y ≡ (eqb (get_or f k 0) x and eqb (get_or s k 0) j)
    last j =
        bool_ext _ _ (λ h. let q = eqb-true j y h in and_true (eq-eqb _ _ (sym ex)) (eq-eqb _ _ (sym ey ∙ sym q)))
        (λ h. let q = split h in eq-eqb j y (sym (eqb-true (get_or s k 0) j q.1) ∙ sym ey))

    rows : (z j : ℕ) → z < ROWS → Dec (z ≡ x) → in_set (nth u DEPENDS z) j ≡ (any_below k (pair_at f s z j) or (eqb (get_or f k 0) z and eqb (get_or s k 0) j))
    rows z j l (yes q) = rw q (p.is j ∙ ap₂ ◌or◌ (inv.row x j (omega (arith, lx, few))) (last j))
    rows z j l (no q) =
        ap (λ (v : Set). in_set v j) (set_kept (DEPENDS + 2 * z) (λ g. omega (arith, q)) p.frame) ∙ inv.row z j l
        ∙ sym (or_off _ _ (and_false_left _ _ (not_so _ (λ h. q (sym (eqb-true (get_or f k 0) z h) ∙ sym ex)))))

    old : (j : ℕ) → in_set ends j ≡ true → in_set e j ≡ true
    old j h = ie j ∙ or_left _ h

    tell : (i : ℕ) → i < k + 1 → (i ≡ k) ⊎ (i < k) → (in_set e (get_or f i 0) ≡ true) × (in_set e (get_or s i 0) ≡ true)
    tell i l (inl q) = rw q
        (ie _ ∙ or_right _ (id _ ∙ or_left _ (ia _ ∙ eq-eqb _ _ (sym ex))), ie _ ∙ or_right _ (id _ ∙ or_right _ (ib _ ∙ eq-eqb _ _ (sym ey))))
    tell i l (inr q) = let h = inv.told i q in (old _ h.0, old _ h.1)

    one : (j : ℕ) → in_set e j ≡ true → j < n
    one j h =
        ⊎_elim (λ q. inv.only j q)
        (λ q. ⊎_elim (λ g. let z = eqb-true j x (sym (ia j) ∙ g) in omega (arith, z, lx)) (λ g. let z = eqb-true j y (sym (ib j) ∙ g) in omega (arith, z, ly))
        (or_cases _ _ (sym (id j) ∙ q)))
        (or_cases _ _ (sym (ie j) ∙ h))

pub named_at : {t : List ℕ} {n : ℕ} → FitRun t n → (k : ℕ) → k < (mode_in t).dependencies → (get_or (mode_in t).first k 0 < n) × (get_or (mode_in t).second k 0 < n)
unfolding decode depends_of dependency
named_at {t} {n} h k l =
    h.fit.named (get_or (mode_in t).first k 0) (get_or (mode_in t).second k 0)
    (any_in (dependency (mode_in t) (get_or (mode_in t).first k 0) (get_or (mode_in t).second k 0)) (mode_in t).dependencies k l (and_true (eq-eqb (get_or (mode_in t).first k 0) (get_or (mode_in t).first k 0) refl) (eq-eqb (get_or (mode_in t).second k 0) (get_or (mode_in t).second k 0) refl)))

pub few_run : {t : List ℕ} {n : ℕ} → FitRun t n → n ≤ ROWS
unfolding decode
few_run h = h.fit.few

pub depends_end : {t : List ℕ} {n m : ℕ} {ends : Set} {w u : List ℕ} → FitRun t n → m ≡ (mode_in t).dependencies → DependsTo n (mode_in t).first (mode_in t).second m ends u
    → Within DEPENDS DEPENDS_END w u → MadeDepends (table_in t n) n ends w u
unfolding decode depends_of dependency pair_at
depends_end {t} {n} {m} {ends} {w} {u} h q inv f =
    record {
      told = record {
        told = λ a b e. let r = any_out (dependency (mode_in t) a b) (mode_in t).dependencies e in
            let p = split r.2 in
            let l = r.1 in
            let z = inv.told r.0 (omega (arith, q)) in
            (sym (ap (in_set ends) (eqb-true _ a p.0)) ∙ z.0, sym (ap (in_set ends) (eqb-true _ b p.1)) ∙ z.1);
        rows = inv.only;
      };
      depends = record {
        row = λ i l. let few = few_run h in
            record {
              is = λ j. inv.row i j (omega (arith, few)) ∙ ap (λ (z : ℕ). any_below z (pair_at (mode_in t).first (mode_in t).second i j)) q
                  ∙ bool_ext _ _ (λ e. and_true (lt-ltb j n (h.fit.named i j e).1) e) (λ e. (split e).1);
            };
      };
      frame = f;
    }
