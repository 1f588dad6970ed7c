-- A class set of which no release row synchronizes-with an acquire row, without dependencies; and what is asked of one that is closed.
-- Assumes nothing.
use Rattle.std.specs.Prelude.{◌≡◌, Bool, true, false, ◌||◌, List, ℕ, ◌*◌, ◌%◌, ◌≤◌, ◌<◌}
use Rattle.std.proofs.Common.{sym, ap, ◌∙◌, arith}
use Rattle.finite.specs.Logic.{◌and◌, not_both, not_so, split, and_true, or_false, or_both}
use Rattle.finite.specs.Below.{any_below, any_in}
use Rattle.model.specs.Limits.{ROWS}
use Rattle.model.specs.Row.{releases, acquires}
use Rattle.model.specs.Synchronizes.{synchronizes}
use Rattle.model.specs.Moment.{row_in, itself, program_order}
use Rattle.model.specs.Happens.{holding, by_sync, inter_thread}
use Rattle.model.specs.Table.{Table}
use Rattle.model_hubs.specs.Rows.{holding_own}
use Rattle.model_hubs.specs.Quiet.{inter_order}
use Rattle.model_closing.specs.Nodes.{holder, releaser, acquirer}
use Rattle.sets_of_rows.specs.declared.Set.{Set}
use Rattle.sets_of_rows.specs.Member.{in_set}
use Rattle.sets_of_rows.specs.Rows.{rows_in_lem}
use Rattle.sets_grids.specs.declared.Concerned.{Concerned}
use Rattle.sets_grids.specs.Concerns.{Told, Concerns}
use Rattle.sets_grids.specs.Given.{given_kept}
use Rattle.sets_grids.specs.Reach.{Asks, MadeReach}
use Rattle.sets_grids.specs.Happens.{Leading}
use Rattle.sets_closure.specs.Widest.{synced_to, synced_from, synced_by}
use Rattle.sets_happens.specs.Adds.{Reached}

pub sync_parts : (t : Table) (x y : ℕ) → synchronizes t x y ≡ true → (releases (t.row x) ≡ true) × (acquires (t.row y) ≡ true)
unfolding synchronizes
sync_parts t x y e = split (split e).0

pub off_both : (a b : Bool) → (a || b) ≡ false → (a ≡ false) × (b ≡ false)
off_both a b e = or_false a b (sym (or_both a b) ∙ e)

calm_sync : (t : Table) (n c : ℕ) (ends : Set) (k : Concerned) → t.rows ≡ n → Concerns t n c ends k → synced_by t n k ≡ false
    → (m j : ℕ) → m < 3 * t.rows → j < 3 * t.rows → by_sync t c m j ≡ false
unfolding by_sync synced_by synced_from synced_to releaser acquirer holder
calm_sync t n c ends k rows h e m j l o = not_so _ (λ a. go a)
  where
    hold : (i : ℕ) → holding t c i ≡ true → holding t c (itself (row_in i)) ≡ true
    hold i a = let q : i % 3 ≡ 1 = holding_own t c i a in let z : itself (row_in i) ≡ i = omega arith in ap (holding t c) z ∙ a

    go : (holding t c m and holding t c j and synchronizes t (row_in m) (row_in j)) ≡ true → ⊥
    go a =
        let b = split a in
        let d = split b.0 in
        let p = sync_parts t (row_in m) (row_in j) b.1 in
        let x : row_in m < n = omega (arith, rows, l) in
        let y : row_in j < n = omega (arith, rows, o) in
        let r : in_set k.releases (row_in m) ≡ true = rows_in_lem h.releases (row_in m) x ∙ and_true (hold m d.0) p.0 in
        let q : in_set k.acquires (row_in j) ≡ true = rows_in_lem h.acquires (row_in j) y ∙ and_true (hold j d.1) p.1 in
        not_both (any_in (synced_from t n k) n (row_in m) x (and_true r (any_in (synced_to t k.acquires (row_in m)) n (row_in j) y (and_true b.1 q)))) e

pub calm : {t : Table} {n c : ℕ} {ends : Set} {k : Concerned} → t.rows ≡ n → n ≤ ROWS → Told t n ends → Concerns t n c ends k → any_below ROWS (in_set ends) ≡ false
    → synced_by t n k ≡ false → (m j : ℕ) → m < 3 * t.rows → j < 3 * t.rows → inter_thread t c m j ≡ true → program_order t m j ≡ true
calm {t} {n} {c} {ends} {k} rows few told h free e = inter_order t c (calm_sync t n c ends k rows h e) none
  where
    none : (a b : ℕ) → t.depends a b ≡ false
    none a b = not_so _ (λ d. let p = (told.told a b d).0 in let l = told.rows a p in not_both (any_in (in_set ends) ROWS a (omega (arith, few)) p) free)

pub asks_of : {t : Table} {n c : ℕ} {ends : Set} {k : Concerned} {s w : List ℕ} → Leading t n ends s w → Concerns t n c ends k → Asks t n c ends k s w
asks_of g h = record { given = g.given; told = g.told; concerns = h; syncs = g.syncs; depends = g.depends }

pub reached_of : {t : Table} {n c : ℕ} {ends : Set} {k : Concerned} {s w u : List ℕ} → Leading t n ends s w → Concerns t n c ends k
    → MadeReach t n c ends w u → Reached t n c ends k s u
reached_of g h m =
    record { given = given_kept m.frame g.given; told = g.told; concerns = h; at = m.at; visible = m.visible; available = m.available }
