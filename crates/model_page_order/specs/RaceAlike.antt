-- Races of two tables that are alike: some pair races in both or in neither. Assumes nothing.
use Rattle.std.specs.Prelude.{◌≡◌, true, ◌⊎◌, ◌↔◌, ℕ, ◌<◌}
use Rattle.std.proofs.Math.Path.{refl}
use Rattle.std.proofs.Common.{sym, ap, ◌∙◌, subst, inl, inr}
use Rattle.std.proofs.Math.Bool.{false}
use Rattle.std.proofs.Math.Logic.{⊎_elim}
use native.Mathlib.Omega.{arith}
use Rattle.std.proofs.Math.Decide.{dec_lt}
use Rattle.std.proofs.Math.Dec.{ltb}
use borrow.Author.Tests.{ltb-true, ltb-false, eqb-false}
use Rattle.finite.specs.Logic.{split, or_cases, not_out, not_so, not_both, which, bool_ext}
use Rattle.finite.specs.Below.{least, least_is}
use Rattle.model.specs.Row.{writes}
use Rattle.model.specs.Table.{Table}
use Rattle.model.specs.Location.{common}
use Rattle.model.specs.Race.{clash, conflict, has_race, race_row}
use Rattle.model.specs.Words.{Races}
use Rattle.model_laws.specs.RaceLaws.{Sized, race_shown, race_none}
use Rattle.model_laws.specs.PairLaws.{common_sym, mutually_sym, conflict_in}
use Rattle.model_page_order.specs.Renumber.{Renumbering, one_to_one, to_below, back_below, eqb_to}
use Rattle.model_page_order.specs.Alike.{Alike}
use Rattle.model_page_order.specs.OrderAlike.{mutually_alike}
use Rattle.model_page_order.specs.LocationAlike.{before_alike}

-- ---- a race has no direction

module _ (t : Table) where
  conflict_out : (x y : ℕ) → conflict t x y ≡ true → (x ≡ y → ⊥) × ((writes (t.row x) ≡ true) ⊎ (writes (t.row y) ≡ true))
  unfolding conflict clash
  conflict_out x y e = let a = split e in (eqb-false x y (not_out _ a.0), or_cases (writes (t.row x)) (writes (t.row y)) (split (split a.1).0).1)

  races_sym : (x y : ℕ) → Races t x y → Races t y x
  races_sym x y r =
      let c = conflict_out x y r.0 in
      let b = r.2.0 in
      let o = r.2.1 in
      let s = common_sym (t.row x) (t.row y) b o.0 in (
        conflict_in t y x b (λ q. c.0 (sym q)) s (⊎_elim (λ h. inr h) (λ h. inl h) c.1),
        not_so _ (λ e. not_both (mutually_sym t y x e) r.1),
        (b, (s, o.2, o.1)),
      )

  -- two different rows of the table race
  abbrev pub SomeRace : Type 0
  SomeRace = (x : ℕ) × (y : ℕ) × (x < y) × (y < t.rows) × Races t x y

  some_either : (x y : ℕ) → x < t.rows → y < t.rows → (x ≡ y → ⊥) → Races t x y → SomeRace
  some_either x y l m n r = go (dec_lt x y)
    where
      go : Dec (x < y) → SomeRace
      go (yes h) = (x, y, h, m, r)
      go (no h) = (y, x, omega arith, l, races_sym x y r)

  pub race_said : Sized t → (ltb (race_row t) t.rows ≡ true) ↔ SomeRace
  unfolding race_row
  race_said sized = (
    λ e. let f = race_shown t sized (ltb-true _ _ e) in (_, _, f.below, f.rows, f.racing),
    λ r. ⊎_elim (λ e. e) (λ e. absurd ((race_none t sized).0 (stopped e) r.0 r.1 r.2 r.3 r.4)) (which _),
  )
    where
      stopped : ltb (least t.rows (has_race t)) t.rows ≡ false → least t.rows (has_race t) ≡ t.rows
      stopped e = let l = ltb-false (least t.rows (has_race t)) t.rows e in let m = (least_is (has_race t) t.rows).bound in omega arith

module _ {t u : Table} {π : Renumbering t.rows} (M : Alike t u π) where
  conflict_alike : (x y : ℕ) → conflict u (π.to x) (π.to y) ≡ conflict t x y
  unfolding conflict
  conflict_alike x y = rw (eqb_to π x y, M.row x, M.row y) refl

  common_alike : (x y b : ℕ) → common (u.row (π.to x)) (u.row (π.to y)) b ≡ common (t.row x) (t.row y) b
  common_alike x y b = rw (M.row x, M.row y) refl

  there : (x y : ℕ) → Races t x y → Races u (π.to x) (π.to y)
  there x y r =
      let b = r.2.0 in
      let o = r.2.1 in
      (conflict_alike x y ∙ r.0, mutually_alike M x y ∙ r.1, (b, (common_alike x y b ∙ o.0, before_alike M x y b ∙ o.1, before_alike M y x b ∙ o.2)))

  here : (x y : ℕ) → Races u (π.to x) (π.to y) → Races t x y
  here x y r =
      let b = r.2.0 in
      let o = r.2.1 in (
        sym (conflict_alike x y) ∙ r.0,
        sym (mutually_alike M x y) ∙ r.1,
        (b, (sym (common_alike x y b) ∙ o.0, sym (before_alike M x y b) ∙ o.1, sym (before_alike M y x b) ∙ o.2)),
      )

  pub some_there : SomeRace t → SomeRace u
  some_there r =
      let l = r.2 in
      let m = r.3 in
      some_either u (π.to r.0) (π.to r.1) (rw M.rows (to_below π r.0 (omega arith))) (rw M.rows (to_below π r.1 m))
      (λ q. let e = one_to_one π r.0 r.1 q in omega arith) (there r.0 r.1 r.4)

  pub some_here : SomeRace u → SomeRace t
  some_here r =
      let l = r.2 in
      let m : r.1 < t.rows = subst (λ (z : ℕ). r.1 < z) M.rows r.3 in
      some_either t (π.back r.0) (π.back r.1) (back_below π r.0 (omega arith)) (back_below π r.1 m)
      (λ q. let e : r.0 ≡ r.1 = sym (π.to_back r.0) ∙ ap π.to q ∙ π.to_back r.1 in omega arith)
      (here (π.back r.0) (π.back r.1) (rw (π.to_back r.0, π.to_back r.1) r.4))

  -- a race is said of both or of neither
  pub race_alike : Sized t → Sized u → ltb (race_row u) u.rows ≡ ltb (race_row t) t.rows
  race_alike p q = bool_ext _ _ (λ e. (race_said t p).1 (some_here ((race_said u q).0 e))) (λ e. (race_said u q).1 (some_there ((race_said t p).0 e)))
