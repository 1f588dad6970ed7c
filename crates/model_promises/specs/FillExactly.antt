-- A fill gives each outcome exactly when it is true, whatever the bytes and the buffers. Assumes nothing.
use Rattle.std.specs.Prelude.{◌≡◌, refl, Bool, true, false, List, ◌++◌, ◌⊎◌, ◌↔◌, ℕ, ◌≤◌, ◌<◌, length, drop, replicate}
use Rattle.std.proofs.Common.{sym, ap, ◌∙◌, inl, inr, arith, ext_get_or}
use Rattle.finite.specs.Logic.{which}
use Rattle.model.specs.declared.Admission.{Admission}
use Rattle.model.specs.declared.Admission.TheVariants.{Admitted, Refused}
use Rattle.model.specs.Limits.{SOURCES, WORK}
use Rattle.model.specs.Table.{Table, table_under, sources_of}
use Rattle.model.specs.Header.{rows_at}
use Rattle.model.specs.Refusal.{buffers_fit, admission}
use Rattle.model.specs.Fill.{Outcome, fill, work_after, sources_after}
use Rattle.model.specs.Words.{FirstRace}
use Rattle.model_laws.specs.AdmissionLaws.{admitted_sound, sound_admitted}
use Rattle.model_promises.specs.Terms.{Bytes, Fit, FillRefuses, FillHears, NoRace, SomeRace, Good, SourcesOf}
use Rattle.model_promises.specs.Outcomes
use Rattle.model_promises.specs.Refused.{fill_refused}
use Rattle.model_promises.specs.CheckExactly.{race_one}
use Rattle.model_promises.specs.Answers
use Rattle.model_promises.specs.Fill as page

module _ (chains : Bool) (s : List ℕ) (work buffer : ℕ) where
  abbrev t : Table
  t = table_under chains s

  abbrev said : Outcome
  said = fill chains s work buffer

  -- what an outcome that is no refusal tells of the table and the buffers
  pub fits : (o : Outcome) → 1 ≤ Outcomes.tag o → said ≡ o → FillHears s work buffer
  fits o l e = go (which (buffers_fit SOURCES work buffer)) (admission true s) refl
    where
      never : (n i : ℕ) → said ≡ Outcome.refused n i → ⊥
      never n i r = let z : Outcomes.tag o ≡ 0 = ap Outcomes.tag (sym e ∙ r) in omega arith

      go : (buffers_fit SOURCES work buffer ≡ true) ⊎ (buffers_fit SOURCES work buffer ≡ false) → (a : Admission) → admission true s ≡ a
          → FillHears s work buffer
      go (inr f) a q = absurd (never 11 0 ((fill_refused chains s work buffer 11 0).1 (inl (f, refl, refl))))
      go (inl f) (Refused n i) q = absurd (never n i ((fill_refused chains s work buffer n i).1 (inr (f, q))))
      go (inl f) (Admitted x y) q = (f, sound_admitted true s (admitted_sound true s q))

  calm : (o : Outcome) → 2 ≤ Outcomes.tag o → said ≡ o → NoRace t
  calm o l e x y a b r =
      let f = fits o (omega arith) e in
      let q = (page.says_race chains s work buffer f.0 f.1).1 (x, y, a, b, r) in
      let z : Outcomes.tag o ≡ 1 = ap Outcomes.tag (sym e ∙ q.3) in
      omega arith

  -- ---- each outcome, exactly

  pub refused_exactly : (n i : ℕ) → (said ≡ Outcome.refused n i) ↔ FillRefuses s work buffer n i
  refused_exactly n i = fill_refused chains s work buffer n i

  pub race_exactly : (x y b : ℕ) → (said ≡ Outcome.race x y b) ↔ (FillHears s work buffer × FirstRace t x y b)
  race_exactly x y b = (
    λ e. let f = fits _ (omega arith) e in (f, page.shows_race chains s work buffer f.0 f.1 x y b e),
    λ h. back h.0 h.1,
  )
    where
      back : FillHears s work buffer → FirstRace t x y b → said ≡ Outcome.race x y b
      back f r =
          let q = (page.says_race chains s work buffer f.0 f.1).1 (x, y, r.below, r.rows, r.racing) in
          let w = race_one q.0 q.1 q.2 x y b (page.shows_race chains s work buffer f.0 f.1 q.0 q.1 q.2 q.3) r in
          q.3 ∙ rw (w.0, w.1, w.2) refl

  -- a race exactly when some pair races
  pub some_race_exactly : ((x : ℕ) × (y : ℕ) × (b : ℕ) × (said ≡ Outcome.race x y b)) ↔ (FillHears s work buffer × SomeRace t)
  some_race_exactly = (
    λ e. let f = fits _ (omega arith) e.3 in (f, (page.says_race chains s work buffer f.0 f.1).0 e),
    λ h. (page.says_race chains s work buffer h.0.0 h.0.1).1 h.1,
  )

  module _ (bytes : Bytes s) where
    pub filled_exactly : (l : List ℕ) → (said ≡ Outcome.filled l) ↔ (FillHears s work buffer × NoRace t
        × ((f : List ℕ) × Good chains s f × SourcesOf s f l × ((g : List ℕ) → Good chains s g → g ≡ f)))
    filled_exactly l = (
      λ e.
          let h = fits _ (omega arith) e in
          let p = page.shows_filled chains s work buffer h.0 h.1 bytes l e in
          (h, calm _ (omega arith) e, (p.0, p.1, (p.2, p.3), p.4)),
      λ h. back h.0 h.1 h.2.0 h.2.1 h.2.2,
    )
      where
        back : FillHears s work buffer → NoRace t → (f : List ℕ) → Good chains s f → SourcesOf s f l → said ≡ Outcome.filled l
        back h n f g o =
            let q = (page.says_filled chains s work buffer h.0 h.1 bytes n).1 (f, g) in
            let p = page.shows_filled chains s work buffer h.0 h.1 bytes q.0 q.1 in
            let one : f ≡ p.0 = p.4 f g in
            let same : q.0 ≡ l =
            ext_get_or 0 q.0 l (p.2 ∙ sym o.0) (λ i m.
            let k : i < rows_at s = subst_lt m p.2 in
            p.3 i k ∙ ap (λ (u : List ℕ). sources_of u i) (sym one) ∙ sym (o.1 i k))
            in
            q.1 ∙ ap Outcome.filled same
          where
            subst_lt : {i a b : ℕ} → i < a → a ≡ b → i < b
            subst_lt m e = omega arith

    pub none_exactly : (said ≡ Outcome.none) ↔ (FillHears s work buffer × NoRace t × ((f : List ℕ) → Good chains s f → ⊥))
    none_exactly = (
      λ e.
          let h = fits _ (omega arith) e in
          let n = calm _ (omega arith) e in
          (h, n, (page.says_none chains s work buffer h.0 h.1 bytes n).0 e),
      λ h. (page.says_none chains s work buffer h.0.0 h.0.1 bytes h.1).1 h.2,
    )

    -- where no pair races: filled exactly when some filling is well formed and consistent, and none exactly when none is
    pub calm_said : FillHears s work buffer → NoRace t → (((l : List ℕ) × (said ≡ Outcome.filled l)) ↔ ((f : List ℕ) × Good chains s f))
        × ((said ≡ Outcome.none) ↔ ((f : List ℕ) → Good chains s f → ⊥))
    calm_said h n = (page.says_filled chains s work buffer h.0 h.1 bytes n, page.says_none chains s work buffer h.0 h.1 bytes n)

-- ---- demand 1, of the work area w and the source buffer c

module _ (chains : Bool) (s w c : List ℕ) where
  abbrev answer : Outcome
  answer = fill chains s (length w) (length c)

  pub fill_demand_1 : ((n : ℕ) × (i : ℕ) × (answer ≡ Outcome.refused n i) × FillRefuses s (length w) (length c) n i
      × (work_after answer w ≡ w) × (sources_after answer c ≡ c))
      ⊎ (FillHears s (length w) (length c)
      × ((w' c' : List ℕ) → Fit SOURCES (length w') (length c') → fill chains s (length w') (length c') ≡ answer)
      × (work_after answer w ≡ replicate WORK 0 ++ drop WORK w))
  fill_demand_1 = go answer refl
    where
      heard : (o : Outcome) → 1 ≤ Outcomes.tag o → answer ≡ o → FillHears s (length w) (length c)
          × ((w' c' : List ℕ) → Fit SOURCES (length w') (length c') → fill chains s (length w') (length c') ≡ o)
          × (work_after o w ≡ replicate WORK 0 ++ drop WORK w)
      heard o l e =
          let f = fits chains s (length w) (length c) o l e in (
            f,
            λ w' c' g. page.same_outcome chains s (length w) (length c) (length w') (length c') f.0 g ∙ e,
            (Answers.fill_leaves w c).1 o (λ n i q. let z : Outcomes.tag o ≡ 0 = ap Outcomes.tag q in omega arith),
          )

      go : (o : Outcome) → answer ≡ o → ((n : ℕ) × (i : ℕ) × (o ≡ Outcome.refused n i) × FillRefuses s (length w) (length c) n i
          × (work_after o w ≡ w) × (sources_after o c ≡ c))
          ⊎ (FillHears s (length w) (length c)
          × ((w' c' : List ℕ) → Fit SOURCES (length w') (length c') → fill chains s (length w') (length c') ≡ o)
          × (work_after o w ≡ replicate WORK 0 ++ drop WORK w))
      go (Outcome.refused n i) e = inl (
        n,
        i,
        refl,
        (fill_refused chains s (length w) (length c) n i).0 e,
        (Answers.fill_leaves w c).0 n i,
        (Answers.fill_leaves w c).3 (Outcome.refused n i) (λ l q. let z : ◌≡◌ {A = ℕ} 0 3 = ap Outcomes.tag q in omega arith),
      )
      go (Outcome.race x y b) e = inr (heard (Outcome.race x y b) (omega arith) e)
      go Outcome.none e = inr (heard Outcome.none (omega arith) e)
      go (Outcome.filled l) e = inr (heard (Outcome.filled l) (omega arith) e)
