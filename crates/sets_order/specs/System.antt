-- Dependencies and their closure. Assumes nothing.
use Rattle.std.specs.Prelude.{◌≡◌, refl, false, not, List, ◌⊎◌, ℕ, ◌*◌, ◌<◌}
use Rattle.std.proofs.Common.{sym, ◌∙◌, inl, inr, arith, eq-eqb, lt-ltb}
use Rattle.std.proofs.Math.Bool.{true}
use Rattle.finite.specs.Logic.{◌and◌, bool_ext, not_both, not_out, split, and_true, or_right}
use Rattle.finite.specs.Below.{all_below, all_out}
use Rattle.finite.specs.Closure.{Reach, one, more, through_reach}
use Rattle.model.specs.Row.{holds}
use Rattle.model.specs.Moment.{row_in, part, AT, itself}
use Rattle.model.specs.Happens.{holding_of, holding, by_sync, to_release, from_acquire, by_system, step, inter_thread}
use Rattle.model.specs.Location.{system_before}
use Rattle.model_laws.specs.CaseLaws.{step_out}
use Rattle.model_closing.specs.Order.{own_row, own_part}
use Rattle.model_closing.specs.Nodes.{step_system, node}
use Rattle.model_closing.specs.Sets.{reached_at}
use Rattle.sets_of_rows.specs.Member.{in_set}
use Rattle.sets_of_rows.specs.Rows.{Rows}
use Rattle.sets_of_table.specs.Fit.{Fit}
use Rattle.model.specs.Table.{Table}
use Rattle.bits.specs.Within.{Within}
use Rattle.sets_of_rows.specs.declared.Set.{Set}
use Rattle.sets_grids.specs.Regions.{DEPENDS, DEPENDS_END, REACH_AT, SYSTEM, SYSTEM_END}
use Rattle.sets_grids.specs.Grid.{Grid, MadeGrid, grid_kept}
use Rattle.sets_grids.specs.Given.{given_few, given_kept}
use Rattle.sets_grids.specs.declared.Concerned.{Concerned}
use Rattle.sets_grids.specs.Concerns.{Told, Concerns}
use Rattle.sets_grids.specs.Happens.{Leading}
use Rattle.sets_grids.specs.Reach.{Asks}

-- ---- definitions

pub record MadeDepends (t : Table) (n : ℕ) (ends : Set) (w u : List ℕ) : Type 0 where
  pub told : Told t n ends
  pub depends : Grid DEPENDS n t.depends u
  pub frame : Within DEPENDS DEPENDS_END w u

abbrev pub MadeSystem : Table → ℕ → List ℕ → List ℕ → Type 0
MadeSystem t n w u = MadeGrid REACH_AT SYSTEM_END SYSTEM n (system_before t) w u

-- ---- laws: the class set that concerns no row

none_all : all_below 16 (λ a. not (holds a 16)) ≡ true
unfolding all_below ◌and◌ holds
none_all = refl

none_holds : (a : ℕ) → a < 16 → holds a 16 ≡ false
none_holds a l = not_out (holds a 16) (all_out (λ a. not (holds a 16)) 16 none_all a l)

module _ (t : Table) (fit : Fit t) where
  none_holding : (m : ℕ) → m < 3 * t.rows → holding t 16 m ≡ true → ⊥
  unfolding holding holding_of
  none_holding m l e = not_both (split e).1 (none_holds (t.row (row_in m)).classes (fit.coded (row_in m) (omega arith)).classes)

  step_none : (m k : ℕ) → m < 3 * t.rows → k < 3 * t.rows → step t 16 m k ≡ true → t.depends (row_in m) (row_in k) ≡ true
  unfolding by_sync to_release from_acquire by_system
  step_none m k l o e = go (step_out t 16 m k e)
    where
      go : (by_sync t 16 m k ≡ true) ⊎ ((to_release t 16 m k ≡ true) ⊎ ((from_acquire t 16 m k ≡ true) ⊎ (by_system t m k ≡ true))) → t.depends (row_in m) (row_in k) ≡ true
      go (inl a) = absurd (none_holding m l (split (split a).0).0)
      go (inr (inl a)) = absurd (none_holding k o (split (split (split a).0).0).0)
      go (inr (inr (inl a))) = absurd (none_holding m l (split (split (split a).0).0).0)
      go (inr (inr (inr a))) = (split a).1

  step_depends : (i j : ℕ) → t.depends i j ≡ true → step t 16 (itself i) (itself j) ≡ true
  unfolding by_system
  step_depends i j e =
      step_system t 16 (itself i) (itself j)
      (and_true (and_true (eq-eqb (part (itself i)) AT (own_part i)) (eq-eqb (part (itself j)) AT (own_part j))) (rw (own_row i, own_row j) e))

  reach_forth : {m k : ℕ} → m < 3 * t.rows → k < 3 * t.rows → Reach (step t 16) (3 * t.rows) m k → Reach t.depends t.rows (row_in m) (row_in k)
  reach_forth {m} {k} l o (one e) = one (step_none m k l o e)
  reach_forth {m} {k} l o (more {m = a} e h q) = more (step_none m a l h e) (omega arith) (reach_forth h o q)

  reach_back : {i j : ℕ} → Reach t.depends t.rows i j → Reach (step t 16) (3 * t.rows) (itself i) (itself j)
  reach_back {i} {j} (one e) = one (step_depends i j e)
  reach_back {i} {j} (more {m = a} e h q) = more (step_depends i a e) (omega arith) (reach_back q)

  system_is : (i j : ℕ) → i < t.rows → j < t.rows → reached_at t 16 i j ≡ system_before t i j
  unfolding reached_at system_before inter_thread
  system_is i j l o =
      bool_ext _ _
      (λ e. (through_reach t.depends t.rows i j).1
      (rw (own_row i, own_row j) at (reach_forth (omega arith) (omega arith) ((through_reach (step t 16) (3 * t.rows) (itself i) (itself j)).0 e))))
      (λ e. (through_reach (step t 16) (3 * t.rows) (itself i) (itself j)).1 (reach_back ((through_reach t.depends t.rows i j).0 e)))

  -- from ends alone
  system_from : {n : ℕ} {ends : Set} → Told t n ends → (i j : ℕ) → system_before t i j ≡ true → in_set ends i ≡ true
  unfolding system_before
  system_from {n} {ends} told i j e = go ((through_reach t.depends t.rows i j).0 e)
    where
      go : Reach t.depends t.rows i j → in_set ends i ≡ true
      go (one a) = (told.told i j a).0
      go (more {m = b} a h q) = (told.told i b a).0

  pub system_order : {n : ℕ} (ends : Set) → t.rows ≡ n → Told t n ends → (i j : ℕ) → i < n → j < n → (in_set ends i and reached_at t 16 i j) ≡ system_before t i j
  system_order ends rows told i j l o =
      let s = system_is i j (omega (arith, rows)) (omega (arith, rows)) in
      bool_ext _ _ (λ e. sym s ∙ (split e).1) (λ e. and_true (system_from told i j e) (s ∙ e))

pub told_rows : {t : Table} {n : ℕ} {ends : Set} → Told t n ends → Rows n (in_set ends) ends
told_rows {t} {n} {ends} told = record { is = λ j. bool_ext _ _ (λ e. and_true (lt-ltb j n (told.rows j e)) e) (λ e. (split e).1) }

pub end_node : (t : Table) (ends : Set) (i : ℕ) → in_set ends i ≡ true → node t (in_set ends) 16 i ≡ true
unfolding node
end_node t ends i e = or_right _ e

pub asks_none : {t : Table} {n : ℕ} {ends : Set} {k : Concerned} {s w u : List ℕ} → Leading t n ends s w → Concerns t n 16 ends k
    → Within SYSTEM SYSTEM_END w u → Asks t n 16 ends k s u
asks_none {t} g h f =
    let few = given_few g.given in
    record {
      given = given_kept f g.given;
      told = g.told;
      concerns = h;
      syncs = grid_kept (λ o. absurd (omega (arith, o, few))) f g.syncs;
      depends = grid_kept (λ o. absurd (omega (arith, o, few))) f g.depends;
    }
