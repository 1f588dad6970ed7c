-- Which sets lead to all that L3 does: AT* and VIS*, with chains or without them; and without chains also those that leave program
-- order out, since what an agent meets of its own is ordered by L1. Of tables whose scopes are M2's.
use Rattle.std.specs.Prelude.{◌≡◌, refl, Bool, true, false, ◌⊎◌, ℕ, ◌<◌}
use Rattle.std.proofs.Common.{sym, ap, ◌∙◌, inl, inr}
use Rattle.std.proofs.Math.Logic.{⊎_elim}
use Rattle.finite.specs.Logic.{◌and◌, ◌or◌, split, and_true, which, bool_ext}
use Rattle.finite.specs.Below.{any_below, any_in, any_out}
use Rattle.model.specs.Row.{reads}
use Rattle.model.specs.Table.{Table}
use Rattle.model.specs.Moment.{itself, availability, visibility, program_order}
use Rattle.model.specs.Availability.{public_write, availability_moment, visibility_moment, first_available, last_visible}
use Rattle.model_laws.specs.ChainLaws.{Scoped}
use Rattle.model_placing.specs.Leads.{meets, shows, seen_by, leads, carried_by, carried, cond_on, cond_off, third_is}
use Rattle.model_placing.specs.Whole.{told, Right}

-- ---- laws: what is carried

module _ (t : Table) where
  first_available_lem : (x b a : ℕ) → first_available t x b a ≡ true
      → (availability t (availability_moment t a) ≡ true) × (program_order t (itself x) (availability_moment t a) ≡ true)
  unfolding first_available
  first_available_lem x b a e = split (split e).0

  last_visible_lem : (y b v : ℕ) → last_visible t y b v ≡ true → (visibility t (visibility_moment t v) ≡ true) × (program_order t (visibility_moment t v) (itself y) ≡ true)
  unfolding last_visible
  last_visible_lem y b v e = split (split e).0

  -- of other sets, that lead to the same but for what is true anyway
  pub carried_more : (at vis at₂ vis₂ : ℕ → ℕ → Bool) (q : Bool) (x y b : ℕ)
      → ((a : ℕ) → a < t.rows → first_available t x b a ≡ true → at a y ≡ true → (q ≡ true) ⊎ (at₂ a y ≡ true))
      → ((a v : ℕ) → a < t.rows → v < t.rows → first_available t x b a ≡ true → last_visible t y b v ≡ true → vis a v ≡ true → (q ≡ true) ⊎ (vis₂ a v ≡ true))
      → carried t at vis x y b ≡ true → (q ≡ true) ⊎ (carried t at₂ vis₂ x y b ≡ true)
  unfolding carried carried_by leads seen_by
  carried_more at vis at₂ vis₂ q x y b f g e = ⊎_elim reading writing (which (reads (t.row y)))
    where
      A : (a : ℕ) × (a < t.rows) × (carried_by t at vis x y b a ≡ true)
      A = any_out (carried_by t at vis x y b) t.rows e

      a : ℕ
      a = A.0

      first : first_available t x b a ≡ true
      first = (split A.2).0

      put : leads t at₂ vis₂ a y b ≡ true → any_below t.rows (carried_by t at₂ vis₂ x y b) ≡ true
      put l = any_in (carried_by t at₂ vis₂ x y b) t.rows a A.1 (and_true first l)

      writing : reads (t.row y) ≡ false → (q ≡ true) ⊎ (any_below t.rows (carried_by t at₂ vis₂ x y b) ≡ true)
      writing r =
          let m : at a y ≡ true = sym (cond_off _ _ _ r) ∙ (split A.2).1 in
          ⊎_elim (λ h. inl h) (λ h. inr (put (cond_off _ _ _ r ∙ h))) (f a A.1 first m)

      reading : reads (t.row y) ≡ true → (q ≡ true) ⊎ (any_below t.rows (carried_by t at₂ vis₂ x y b) ≡ true)
      reading r =
          let m : any_below t.rows (seen_by t vis a y b) ≡ true = sym (cond_on _ _ _ r) ∙ (split A.2).1 in
          let v = any_out (seen_by t vis a y b) t.rows m in
          let h = split v.2 in
          ⊎_elim (λ o. inl o) (λ o. inr (put (cond_on _ _ _ r ∙ any_in (seen_by t vis₂ a y b) t.rows v.0 v.1 (and_true h.0 o))))
          (g a v.0 A.1 v.1 first h.0 h.1)

  -- ---- laws: the right sets

  -- AT* and VIS* are, with chains or without
  pub right_all : Scoped t → (x y : ℕ) → Right t (meets t) (shows t) x y
  right_all scoped x y b c = ap (λ (z : Bool). told t x y or z) (third_is t scoped x y b)

  -- sets that agree at operations are
  pub right_cong : (at vis at₂ vis₂ : ℕ → ℕ → Bool) (x y : ℕ)
      → ((a : ℕ) → a < t.rows → availability t (availability_moment t a) ≡ true → at a y ≡ at₂ a y)
      → ((a v : ℕ) → a < t.rows → v < t.rows → availability t (availability_moment t a) ≡ true → visibility t (visibility_moment t v) ≡ true → vis a v ≡ vis₂ a v)
      → Right t at vis x y → Right t at₂ vis₂ x y
  right_cong at vis at₂ vis₂ x y f g right b c = right b c ∙ ap (λ (z : Bool). told t x y or (public_write (t.row x) (t.row y) and z)) same
    where
      never : (z : Bool) → (false ≡ true) ⊎ (z ≡ true) → z ≡ true
      never true e = refl
      never false (inl e) = e
      never false (inr e) = e

      same : carried t at vis x y b ≡ carried t at₂ vis₂ x y b
      same =
          bool_ext _ _
          (λ e. never _ (carried_more at vis at₂ vis₂ false x y b (λ a l h m. inr (sym (f a l (first_available_lem x b a h).0) ∙ m))
          (λ a v l o h i m. inr (sym (g a v l o (first_available_lem x b a h).0 (last_visible_lem y b v i).0) ∙ m)) e))
          (λ e. never _ (carried_more at₂ vis₂ at vis false x y b (λ a l h m. inr (f a l (first_available_lem x b a h).0 ∙ m))
          (λ a v l o h i m. inr (g a v l o (first_available_lem x b a h).0 (last_visible_lem y b v i).0 ∙ m)) e))
