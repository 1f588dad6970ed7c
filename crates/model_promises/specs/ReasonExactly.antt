-- The reader of derivations gives each answer exactly when it is true, and so does their finder, up to the choice of a derivation. Assumes nothing.
use Rattle.std.specs.Prelude.{◌≡◌, refl, true, false, List, [], ◌++◌, ◌⊎◌, ◌↔◌, ℕ, ◌≤◌, length, get_or, drop, replicate}
use Rattle.std.proofs.Common.{sym, ap, ◌∙◌, inl, inr, arith}
use Rattle.finite.specs.Logic.{which, not_both}
use Rattle.model.specs.declared.Admission.{Admission}
use Rattle.model.specs.declared.Admission.TheVariants.{Admitted, Refused}
use Rattle.model.specs.declared.Reason.{Reason}
use Rattle.model.specs.declared.Reason.TheVariants.{ProgramOrder, Chain}
use Rattle.model.specs.Limits.{STEPS, WORK}
use Rattle.model.specs.Table.{Table, table_of}
use Rattle.model.specs.Moment.{moment}
use Rattle.model.specs.Happens.{by_sync, to_release, from_acquire, by_system}
use Rattle.model.specs.Refusal.{buffers_fit, admission}
use Rattle.model.specs.Reason.{Judged, Derived, case_in, reached, stands, step_holds, two_moments, judge, derive, work_after, chain_after}
use Rattle.model.specs.Words.{HappensBefore}
use Rattle.model_laws.specs.AdmissionLaws.{not_admitted, admitted_sound, sound_admitted}
use Rattle.model_promises.specs.Terms.{Fit, ReaderRefuses, ReaderHears, DeriveRefuses, DeriveHears, StepHolds, Shows}
use Rattle.model_promises.specs.Terms.{by_synchronizing, to_a_release, from_an_acquire, by_a_dependency}
use Rattle.model_promises.specs.Refused.{judge_refused, derive_refused}
use Rattle.model_promises.specs.Answers
use Rattle.model_promises.specs.Reason as page

-- ---- definitions

abbrev judged_tag : Judged → ℕ
judged_tag (Judged.refused n i) = 0
judged_tag Judged.accepted = 1
judged_tag Judged.not_accepted = 2

abbrev derived_tag : Derived → ℕ
derived_tag (Derived.refused n i) = 0
derived_tag Derived.word = 1
derived_tag (Derived.chained c l) = 2
derived_tag Derived.not_before = 3

-- ---- a step

pub step_holds_lem : (t : Table) (c m x : ℕ) → (step_holds t c m x ≡ true) ↔ StepHolds t c m x
step_holds_lem t c m x = (λ e. forth ((page.step_exactly t c m x).0 e), λ h. (page.step_exactly t c m x).1 (back h))
  where
    forth : ((moment t (reached x) ≡ true)
        × (((((case_in x ≡ 1) × (by_sync t c m (reached x) ≡ true)) ⊎ ((case_in x ≡ 2) × (to_release t c m (reached x) ≡ true)))
        ⊎ ((case_in x ≡ 3) × (from_acquire t c m (reached x) ≡ true))) ⊎ ((case_in x ≡ 4) × (by_system t m (reached x) ≡ true))))
        → StepHolds t c m x
    forth (p, inl (inl (inl q))) = by_synchronizing p q.0 q.1
    forth (p, inl (inl (inr q))) = to_a_release p q.0 q.1
    forth (p, inl (inr q)) = from_an_acquire p q.0 q.1
    forth (p, inr q) = by_a_dependency p q.0 q.1

    back : StepHolds t c m x → ((moment t (reached x) ≡ true)
        × (((((case_in x ≡ 1) × (by_sync t c m (reached x) ≡ true)) ⊎ ((case_in x ≡ 2) × (to_release t c m (reached x) ≡ true)))
        ⊎ ((case_in x ≡ 3) × (from_acquire t c m (reached x) ≡ true))) ⊎ ((case_in x ≡ 4) × (by_system t m (reached x) ≡ true))))
    back (by_synchronizing p q r) = (p, inl (inl (inl (q, r))))
    back (to_a_release p q r) = (p, inl (inl (inr (q, r))))
    back (from_an_acquire p q r) = (p, inl (inr (q, r)))
    back (by_a_dependency p q r) = (p, inr (q, r))

-- ---- the reader

module _ (s : List ℕ) (m k : ℕ) where
  module _ (r : Reason) (l : List ℕ) where
    abbrev read : Judged
    read = judge s m k r l

    reader_hears : (j : Judged) → 1 ≤ judged_tag j → read ≡ j → ReaderHears s m k
    reader_hears j h e = go (admission true s) refl (which (two_moments (table_of s) m k))
      where
        never : (n i : ℕ) → read ≡ Judged.refused n i → ⊥
        never n i q = let z : judged_tag j ≡ 0 = ap judged_tag (sym e ∙ q) in omega arith

        go : (a : Admission) → admission true s ≡ a → (two_moments (table_of s) m k ≡ true) ⊎ (two_moments (table_of s) m k ≡ false) → ReaderHears s m k
        go (Refused n i) q w = absurd (never n i ((judge_refused s m k r l n i).1 (inl q)))
        go (Admitted x y) q (inl w) = (sound_admitted true s (admitted_sound true s q), w)
        go (Admitted x y) q (inr w) =
            absurd (never 12 0 ((judge_refused s m k r l 12 0).1 (inr (sound_admitted true s (admitted_sound true s q), w, refl, refl))))

    pub refused_exactly : (n i : ℕ) → (read ≡ Judged.refused n i) ↔ ReaderRefuses s m k n i
    refused_exactly n i = judge_refused s m k r l n i

    not_refused : ReaderHears s m k → (n i : ℕ) → read ≡ Judged.refused n i → ⊥
    not_refused h n i e = go ((judge_refused s m k r l n i).0 e)
      where
        go : ReaderRefuses s m k n i → ⊥
        go (inl p) = not_admitted (sym p ∙ h.0)
        go (inr p) = not_both h.1 p.1

  heard_exactly : (r : Reason) (l : List ℕ) → ReaderHears s m k → (judge s m k r l ≡ Judged.accepted) ↔ Shows (table_of s) m k r l
  heard_exactly ProgramOrder l h = page.reads_word s m k h.0 h.1 l
  heard_exactly (Chain c) l h =
      let p = page.reads_chain s m k h.0 h.1 c l in (
        λ e.
            let q = p.0 e in
            (q.0, q.1, q.2, q.3, q.4, λ i n. (step_holds_lem (table_of s) c (stands m l i) (get_or l i 0)).0 (q.5 i n)),
        λ q. p.1 (q.0, q.1, q.2, q.3, q.4, λ i n. (step_holds_lem (table_of s) c (stands m l i) (get_or l i 0)).1 (q.5 i n)),
      )

  pub accepted_exactly : (r : Reason) (l : List ℕ) → (judge s m k r l ≡ Judged.accepted) ↔ (ReaderHears s m k × Shows (table_of s) m k r l)
  accepted_exactly r l = (
    λ e. let h = reader_hears r l _ (omega arith) e in (h, (heard_exactly r l h).0 e),
    λ h. (heard_exactly r l h.0).1 h.1,
  )

  pub not_accepted_exactly : (r : Reason) (l : List ℕ) → (judge s m k r l ≡ Judged.not_accepted) ↔ (ReaderHears s m k × (Shows (table_of s) m k r l → ⊥))
  not_accepted_exactly r l = (
    λ e.
        let h = reader_hears r l _ (omega arith) e in
        (h, λ w. let z : ◌≡◌ {A = ℕ} 2 1 = ap judged_tag (sym e ∙ (heard_exactly r l h).1 w) in omega arith),
    λ h. back h.0 h.1 (judge s m k r l) refl,
  )
    where
      back : ReaderHears s m k → (Shows (table_of s) m k r l → ⊥) → (j : Judged) → judge s m k r l ≡ j → j ≡ Judged.not_accepted
      back h n Judged.not_accepted e = refl
      back h n Judged.accepted e = absurd (n ((heard_exactly r l h).0 e))
      back h n (Judged.refused a b) e = absurd (not_refused r l h a b e)

  -- some derivation is accepted exactly when m happens before k
  pub some_accepted_exactly : ((r : Reason) × (l : List ℕ) × (judge s m k r l ≡ Judged.accepted)) ↔ (ReaderHears s m k × HappensBefore (table_of s) m k)
  some_accepted_exactly = (
    λ e. let h = reader_hears e.0 e.1 _ (omega arith) e.2 in (h, (page.reads_some s m k h.0 h.1).0 e),
    λ h. (page.reads_some s m k h.0.0 h.0.1).1 h.1,
  )

  -- ---- the finder

  module _ (work buffer : ℕ) where
    abbrev found : Derived
    found = derive s m k work buffer

    pub finder_hears : (d : Derived) → 1 ≤ derived_tag d → found ≡ d → DeriveHears s m k work buffer
    finder_hears d h e = go (which (buffers_fit STEPS work buffer)) (admission true s) refl (which (two_moments (table_of s) m k))
      where
        never : (n i : ℕ) → found ≡ Derived.refused n i → ⊥
        never n i q = let z : derived_tag d ≡ 0 = ap derived_tag (sym e ∙ q) in omega arith

        go : (buffers_fit STEPS work buffer ≡ true) ⊎ (buffers_fit STEPS work buffer ≡ false) → (a : Admission) → admission true s ≡ a
            → (two_moments (table_of s) m k ≡ true) ⊎ (two_moments (table_of s) m k ≡ false) → DeriveHears s m k work buffer
        go (inr f) a q w = absurd (never 11 0 ((derive_refused s m k work buffer 11 0).1 (inl (f, refl, refl))))
        go (inl f) (Refused n i) q w = absurd (never n i ((derive_refused s m k work buffer n i).1 (inr (f, inl q))))
        go (inl f) (Admitted x y) q (inl w) = (f, (sound_admitted true s (admitted_sound true s q), w))
        go (inl f) (Admitted x y) q (inr w) =
            absurd (never 12 0 ((derive_refused s m k work buffer 12 0).1 (inr (f, inr (sound_admitted true s (admitted_sound true s q), w, refl, refl)))))

    pub finder_refused_exactly : (n i : ℕ) → (found ≡ Derived.refused n i) ↔ DeriveRefuses s m k work buffer n i
    finder_refused_exactly n i = derive_refused s m k work buffer n i

    pub word_found : found ≡ Derived.word → DeriveHears s m k work buffer × Shows (table_of s) m k ProgramOrder []
    word_found e =
        let h = finder_hears _ (omega arith) e in
        (h, (heard_exactly ProgramOrder [] h.1).0 (page.finds_word s m k h.1.0 h.1.1 work buffer h.0 e))

    pub chain_found : (c : ℕ) (l : List ℕ) → found ≡ Derived.chained c l → DeriveHears s m k work buffer × Shows (table_of s) m k (Chain c) l
    chain_found c l e =
        let h = finder_hears _ (omega arith) e in
        (h, (heard_exactly (Chain c) l h.1).0 (page.finds_chain s m k h.1.0 h.1.1 work buffer h.0 c l e))

    pub none_exactly : (found ≡ Derived.not_before) ↔ (DeriveHears s m k work buffer × (HappensBefore (table_of s) m k → ⊥))
    none_exactly = (
      λ e.
          let h = finder_hears _ (omega arith) e in
          (h, (page.finds_none s m k h.1.0 h.1.1 work buffer h.0).0 e),
      λ h. (page.finds_none s m k h.0.1.0 h.0.1.1 work buffer h.0.0).1 h.1,
    )

    -- a derivation is found exactly when m happens before k
    pub found_exactly : ((found ≡ Derived.word) ⊎ ((c : ℕ) × (l : List ℕ) × (found ≡ Derived.chained c l)))
        ↔ (DeriveHears s m k work buffer × HappensBefore (table_of s) m k)
    found_exactly = (
      λ e. let h = heard e in (h, (page.finds_some s m k h.1.0 h.1.1 work buffer h.0).0 e),
      λ h. (page.finds_some s m k h.0.1.0 h.0.1.1 work buffer h.0.0).1 h.1,
    )
      where
        heard : (found ≡ Derived.word) ⊎ ((c : ℕ) × (l : List ℕ) × (found ≡ Derived.chained c l)) → DeriveHears s m k work buffer
        heard (inl e) = finder_hears _ (omega arith) e
        heard (inr e) = finder_hears _ (omega arith) e.2

-- ---- demand 1, of the work area w and the chain buffer c

module _ (s : List ℕ) (m k : ℕ) (w c : List ℕ) where
  abbrev answer : Derived
  answer = derive s m k (length w) (length c)

  pub derive_demand_1 : ((n : ℕ) × (i : ℕ) × (answer ≡ Derived.refused n i) × DeriveRefuses s m k (length w) (length c) n i
      × (work_after answer w ≡ w) × (chain_after answer c ≡ c))
      ⊎ (DeriveHears s m k (length w) (length c)
      × ((w' c' : List ℕ) → Fit STEPS (length w') (length c') → derive s m k (length w') (length c') ≡ answer)
      × (work_after answer w ≡ replicate WORK 0 ++ drop WORK w))
  derive_demand_1 = go answer refl
    where
      heard : (d : Derived) → 1 ≤ derived_tag d → answer ≡ d → DeriveHears s m k (length w) (length c)
          × ((w' c' : List ℕ) → Fit STEPS (length w') (length c') → derive s m k (length w') (length c') ≡ d)
          × (work_after d w ≡ replicate WORK 0 ++ drop WORK w)
      heard d l e =
          let f = finder_hears s m k (length w) (length c) d l e in (
            f,
            λ w' c' g. page.same_derivation s m k (length w) (length c) (length w') (length c') f.0 g ∙ e,
            (Answers.derive_leaves w c).1 d (λ n i q. let z : derived_tag d ≡ 0 = ap derived_tag q in omega arith),
          )

      go : (d : Derived) → answer ≡ d → ((n : ℕ) × (i : ℕ) × (d ≡ Derived.refused n i) × DeriveRefuses s m k (length w) (length c) n i
          × (work_after d w ≡ w) × (chain_after d c ≡ c))
          ⊎ (DeriveHears s m k (length w) (length c)
          × ((w' c' : List ℕ) → Fit STEPS (length w') (length c') → derive s m k (length w') (length c') ≡ d)
          × (work_after d w ≡ replicate WORK 0 ++ drop WORK w))
      go (Derived.refused n i) e = inl (
        n,
        i,
        refl,
        (derive_refused s m k (length w) (length c) n i).0 e,
        (Answers.derive_leaves w c).0 n i,
        (Answers.derive_leaves w c).3 (Derived.refused n i) (λ a l q. let z : ◌≡◌ {A = ℕ} 0 2 = ap derived_tag q in omega arith),
      )
      go Derived.word e = inr (heard Derived.word (omega arith) e)
      go (Derived.chained a l) e = inr (heard (Derived.chained a l) (omega arith) e)
      go Derived.not_before e = inr (heard Derived.not_before (omega arith) e)
