-- A check gives each verdict exactly when it is true, whatever the bytes and the buffers. Assumes nothing.
use Rattle.std.specs.Prelude.{◌≡◌, refl, Bool, true, false, List, [], ◌∷◌, ◌++◌, ◌⊎◌, ◌↔◌, ℕ, ◌≤◌, ◌<◌, length, drop, replicate}
use Rattle.std.proofs.Common.{sym, ap, ◌∙◌, inl, inr, arith}
use Rattle.finite.specs.Logic.{which, not_both}
use Rattle.finite.specs.Walk.{along}
use Rattle.finite.specs.Cycle.{Lex, less, same, Way, there, onward, Canonical}
use Rattle.model.specs.declared.Admission.{Admission}
use Rattle.model.specs.declared.Admission.TheVariants.{Admitted, Refused}
use Rattle.model.specs.Limits.{CYCLE, WORK}
use Rattle.model.specs.Table.{Table, table_under, sources_of}
use Rattle.model.specs.Edge.{edge, edge_number, cycle_row}
use Rattle.model.specs.Refusal.{buffers_fit, admission}
use Rattle.model.specs.Check.{Verdict, check, work_after, cycle_after}
use Rattle.model.specs.Words.{WellFormed, Consistent, FirstRace, FirstOverwrite, Cyclic, Overwritten}
use Rattle.model_laws.specs.AdmissionLaws.{not_admitted, admitted_sound, sound_admitted}
use Rattle.model_laws.specs.AxiomLaws.{cyclic_is}
use Rattle.model_promises.specs.Terms.{Fit, CheckRefuses, CheckHears, RaceFree, CycleShown, SaysInconsistent}
use Rattle.model_promises.specs.Cases
use Rattle.model_promises.specs.Refused.{check_refused}
use Rattle.model_promises.specs.Answers
use Rattle.model_promises.specs.Check as page

-- ---- what is shown is only one

lex_head : {a b : ℕ} {l m : List ℕ} → Lex (a ∷ l) (b ∷ m) → (a < b) ⊎ ((a ≡ b) × Lex l m)
lex_head (less p) = inl p
lex_head (same p) = inr (refl, p)

lex_same : (l m : List ℕ) → Lex l m → Lex m l → l ≡ m
lex_same [] [] p q = refl
lex_same [] (b ∷ m) p q = elim q [ ]
lex_same (a ∷ l) [] p q = elim p [ ]
lex_same (a ∷ l) (b ∷ m) p q = go (lex_head p) (lex_head q) (λ u v. lex_same l m u v)
  where
    go : (a < b) ⊎ ((a ≡ b) × Lex l m) → (b < a) ⊎ ((b ≡ a) × Lex m l) → (Lex l m → Lex m l → l ≡ m) → (a ∷ l) ≡ (b ∷ m)
    go (inl x) (inl y) s = absurd (omega arith)
    go (inl x) (inr (y, v)) s = absurd (omega arith)
    go (inr (x, u)) (inl y) s = absurd (omega arith)
    go (inr (x, u)) (inr (y, v)) s = rw (x, s u v) refl

pub canonical_one : {n : ℕ} {e : ℕ → ℕ → Bool} (l m : List ℕ) → Canonical n e l → Canonical n e m → l ≡ m
canonical_one l m a b =
    let p = a.fewest m b.way b.some in
    let q = b.fewest l a.way a.some in
    lex_same l m (a.first m b.way (omega arith)) (b.first l a.way (omega arith))

-- a way that isn't empty ends below the bound
way_low : {n : ℕ} {e : ℕ → ℕ → Bool} {x z : ℕ} (l : List ℕ) → Way n e x z l → 1 ≤ length l → x < n
way_low [] w h = absurd (omega arith)
way_low (a ∷ []) (onward d p there) h = d
way_low (a ∷ (b ∷ l)) (onward d p w) h = way_low (b ∷ l) w (omega arith)

pub overwrite_one : {t : Table} {source : ℕ → ℕ} (y z b y' z' b' : ℕ) → FirstOverwrite t source y z b → FirstOverwrite t source y' z' b'
    → (y ≡ y') × (z ≡ z') × (b ≡ b')
overwrite_one y z b y' z' b' p q =
    go (p.first y' z' b' q.reader q.writer q.broken) (q.first y z b p.reader p.writer p.broken)
  where
    go : (y < y') ⊎ ((y ≡ y') × ((z < z') ⊎ ((z ≡ z') × (b ≤ b')))) → (y' < y) ⊎ ((y' ≡ y) × ((z' < z) ⊎ ((z' ≡ z) × (b' ≤ b))))
        → (y ≡ y') × (z ≡ z') × (b ≡ b')
    go (inl i) (inl j) = absurd (omega arith)
    go (inl i) (inr (j, k)) = absurd (omega arith)
    go (inr (i, k)) (inl j) = absurd (omega arith)
    go (inr (i, inl k)) (inr (j, inl m)) = absurd (omega arith)
    go (inr (i, inl k)) (inr (j, inr (m, h))) = absurd (omega arith)
    go (inr (i, inr (k, h))) (inr (j, inl m)) = absurd (omega arith)
    go (inr (i, inr (k, h))) (inr (j, inr (m, g))) = (i, k, omega arith)

pub race_one : {t : Table} (x y b x' y' b' : ℕ) → FirstRace t x y b → FirstRace t x' y' b' → (x ≡ x') × (y ≡ y') × (b ≡ b')
race_one {t} x y b x' y' b' p q =
    let s = pair in
    (s.0, s.1, byte s.0 s.1)
  where
    pair : (x ≡ x') × (y ≡ y')
    pair = go (p.first x' y' q.below q.rows q.racing) (q.first x y p.below p.rows p.racing)
      where
        go : (x < x') ⊎ ((x ≡ x') × (y ≤ y')) → (x' < x) ⊎ ((x' ≡ x) × (y' ≤ y)) → (x ≡ x') × (y ≡ y')
        go (inl i) (inl j) = absurd (omega arith)
        go (inl i) (inr (j, k)) = absurd (omega arith)
        go (inr (i, k)) (inl j) = absurd (omega arith)
        go (inr (i, k)) (inr (j, h)) = (i, omega arith)

    byte : x ≡ x' → y ≡ y' → b ≡ b'
    byte i j =
        let h = p.lowest b' (rw (i, j) q.open_byte) in
        let k = q.lowest b (rw (← i, ← j) p.open_byte) in
        omega arith

-- ---- what a verdict that is no refusal tells of the table and the buffers

module _ (chains : Bool) (s : List ℕ) (work buffer : ℕ) where
  abbrev t : Table
  t = table_under chains s

  abbrev source : ℕ → ℕ
  source = sources_of s

  abbrev said : Verdict
  said = check chains s work buffer

  pub fits : (v : Verdict) → 1 ≤ Cases.tag v → said ≡ v → CheckHears s work buffer
  fits v l e = go (which (buffers_fit CYCLE work buffer)) (admission false s) refl
    where
      never : (n i : ℕ) → said ≡ Verdict.refused n i → ⊥
      never n i r = let z : Cases.tag v ≡ 0 = ap Cases.tag (sym e ∙ r) in omega arith

      go : (buffers_fit CYCLE work buffer ≡ true) ⊎ (buffers_fit CYCLE work buffer ≡ false) → (a : Admission) → admission false s ≡ a
          → CheckHears s work buffer
      go (inr f) a q = absurd (never 11 0 ((check_refused chains s work buffer 11 0).1 (inl (f, refl, refl))))
      go (inl f) (Refused n i) q = absurd (never n i ((check_refused chains s work buffer n i).1 (inr (f, q))))
      go (inl f) (Admitted x y) q = (f, sound_admitted false s (admitted_sound false s q))

  pub kept : (v : Verdict) → 3 ≤ Cases.tag v → said ≡ v → Consistent t source
  kept v l e =
      let f = fits v (omega arith) e in
      let cyc : Cyclic t source → ⊥ =
      λ c. let p = (page.says_cycle chains s work buffer f.0 f.1).1 c in
      let z : Cases.tag v ≡ 1 = ap Cases.tag (sym e ∙ p.2) in omega arith
      in (
        cyc,
        λ o. let p = (page.says_overwritten chains s work buffer f.0 f.1).1 (cyc, o) in
            let z : Cases.tag v ≡ 2 = ap Cases.tag (sym e ∙ p.3) in omega arith,
      )

  -- ---- each verdict, exactly

  pub refused_exactly : (n i : ℕ) → (said ≡ Verdict.refused n i)
      ↔ (CheckRefuses s work buffer n i)
  refused_exactly n i = check_refused chains s work buffer n i

  broken : (rows : List ℕ) → Canonical t.rows (edge t source) rows → Cyclic t source
  unfolding cycle_row
  broken rows c = (cyclic_is t source).0 (way_low rows c.way c.some)

  pub cyclic_exactly : (rows edges : List ℕ) → (said ≡ Verdict.cyclic rows edges) ↔ (CheckHears s work buffer × CycleShown t source rows edges)
  cyclic_exactly rows edges = (
    λ e.
        let f = fits _ (omega arith) e in
        let c = page.shows_cycle chains s work buffer f.0 f.1 rows edges e in
        (f, c),
    λ h. back h.0.0 h.0.1 h.1.0 h.1.1,
  )
    where
      back : Fit CYCLE work buffer → WellFormed s → Canonical t.rows (edge t source) rows → edges ≡ along (edge_number t source) (cycle_row t source) rows
          → said ≡ Verdict.cyclic rows edges
      back fit well c a =
          let q = (page.says_cycle chains s work buffer fit well).1 (broken rows c) in
          let shown = page.shows_cycle chains s work buffer fit well q.0 q.1 q.2 in
          let same_rows : q.0 ≡ rows = canonical_one q.0 rows shown.0 c in
          let same_edges : q.1 ≡ edges = shown.1 ∙ ap (along (edge_number t source) (cycle_row t source)) same_rows ∙ sym a in
          q.2 ∙ rw (same_rows, same_edges) refl

  pub overwritten_exactly : (y z b : ℕ) → (said ≡ Verdict.overwritten y z b)
      ↔ (CheckHears s work buffer × (Cyclic t source → ⊥) × FirstOverwrite t source y z b)
  overwritten_exactly y z b = (
    λ e.
        let f = fits _ (omega arith) e in (
          f,
          ((page.says_overwritten chains s work buffer f.0 f.1).0 (y, z, b, e)).0,
          page.shows_overwritten chains s work buffer f.0 f.1 y z b e,
        ),
    λ h. back h.0.0 h.0.1 h.1 h.2,
  )
    where
      back : Fit CYCLE work buffer → WellFormed s → (Cyclic t source → ⊥) → FirstOverwrite t source y z b → said ≡ Verdict.overwritten y z b
      back fit well n o =
          let q = (page.says_overwritten chains s work buffer fit well).1 (n, (y, z, b, o.reader, o.writer, o.broken)) in
          let shown = page.shows_overwritten chains s work buffer fit well q.0 q.1 q.2 q.3 in
          let w = overwrite_one q.0 q.1 q.2 y z b shown o in
          q.3 ∙ rw (w.0, w.1, w.2) refl

  pub race_exactly : (x y b : ℕ) → (said ≡ Verdict.race x y b) ↔ (CheckHears s work buffer × Consistent t source × FirstRace t x y b)
  race_exactly x y b = (
    λ e.
        let f = fits _ (omega arith) e in
        (f, kept _ (omega arith) e, page.shows_race chains s work buffer f.0 f.1 x y b e),
    λ h. back h.0.0 h.0.1 h.1 h.2,
  )
    where
      back : Fit CYCLE work buffer → WellFormed s → Consistent t source → FirstRace t x y b → said ≡ Verdict.race x y b
      back fit well c r =
          let q = (page.says_race chains s work buffer fit well c).1 (x, y, r.below, r.rows, r.racing) in
          let shown = page.shows_race chains s work buffer fit well q.0 q.1 q.2 q.3 in
          let w = race_one q.0 q.1 q.2 x y b shown r in
          q.3 ∙ rw (w.0, w.1, w.2) refl

  pub free_exactly : (said ≡ Verdict.race_free) ↔ (CheckHears s work buffer × Consistent t source × RaceFree t)
  free_exactly = (
    λ e.
        let f = fits _ (omega arith) e in
        let k = kept _ (omega arith) e in
        (f, k, (page.says_free chains s work buffer f.0 f.1 k).0 e),
    λ h. (page.says_free chains s work buffer h.0.0 h.0.1 h.1).1 h.2,
  )

  -- ---- demand 2

  -- inconsistent exactly when an axiom is broken
  pub inconsistent_exactly : SaysInconsistent said ↔ (CheckHears s work buffer × (Cyclic t source ⊎ Overwritten t source))
  inconsistent_exactly = (forth, λ h. back h.0.0 h.0.1 h.1 said refl)
    where
      forth : SaysInconsistent said → CheckHears s work buffer × (Cyclic t source ⊎ Overwritten t source)
      forth (inl (r, d, e)) = let h = (cyclic_exactly r d).0 e in (h.0, inl (broken r h.1.0))
      forth (inr (y, z, b, e)) =
          let h = (overwritten_exactly y z b).0 e in
          let o = h.2 in
          (h.0, inr (y, z, b, o.reader, o.writer, o.broken))

      clash : (v : Verdict) → 3 ≤ Cases.tag v → said ≡ v → Cyclic t source ⊎ Overwritten t source → SaysInconsistent v
      clash v l e (inl c) = absurd ((kept v l e).0 c)
      clash v l e (inr o) = absurd ((kept v l e).1 o)

      back : Fit CYCLE work buffer → WellFormed s → Cyclic t source ⊎ Overwritten t source → (v : Verdict) → said ≡ v → SaysInconsistent v
      back fit well h (Verdict.cyclic r d) e = inl (r, d, refl)
      back fit well h (Verdict.overwritten y z b) e = inr (y, z, b, refl)
      back fit well h (Verdict.race x y b) e = clash (Verdict.race x y b) (omega arith) e h
      back fit well h Verdict.race_free e = clash Verdict.race_free (omega arith) e h
      back fit well h (Verdict.refused n i) e = absurd (never ((check_refused chains s work buffer n i).0 e))
        where
          never : CheckRefuses s work buffer n i → ⊥
          never (inl p) = not_both fit p.0
          never (inr p) = not_admitted (sym p.1 ∙ well)

  -- of a consistent table, race-free where it is; otherwise the first racing pair and its lowest unordered byte
  pub consistent_said : CheckHears s work buffer → Consistent t source
      → ((said ≡ Verdict.race_free) × RaceFree t) ⊎ ((x : ℕ) × (y : ℕ) × (b : ℕ) × (said ≡ Verdict.race x y b) × FirstRace t x y b)
  consistent_said hears c = go said refl
    where
      go : (v : Verdict) → said ≡ v → ((v ≡ Verdict.race_free) × RaceFree t) ⊎ ((x : ℕ) × (y : ℕ) × (b : ℕ) × (v ≡ Verdict.race x y b) × FirstRace t x y b)
      go Verdict.race_free e = inl (refl, (free_exactly.0 e).2)
      go (Verdict.race x y b) e = inr (x, y, b, refl, ((race_exactly x y b).0 e).2)
      go (Verdict.cyclic r d) e = absurd (c.0 (broken r ((cyclic_exactly r d).0 e).1.0))
      go (Verdict.overwritten y z b) e = let o = ((overwritten_exactly y z b).0 e).2 in absurd (c.1 (y, z, b, o.reader, o.writer, o.broken))
      go (Verdict.refused n i) e = absurd (never ((check_refused chains s work buffer n i).0 e))
        where
          never : CheckRefuses s work buffer n i → ⊥
          never (inl p) = not_both hears.0 p.0
          never (inr p) = not_admitted (sym p.1 ∙ hears.1)

-- ---- demand 1, of the work area w and the cycle buffer c

module _ (chains : Bool) (s w c : List ℕ) where
  abbrev answer : Verdict
  answer = check chains s (length w) (length c)

  pub check_demand_1 : ((n : ℕ) × (i : ℕ) × (answer ≡ Verdict.refused n i)
      × (CheckRefuses s (length w) (length c) n i)
      × (work_after answer w ≡ w) × (cycle_after answer c ≡ c))
      ⊎ (CheckHears s (length w) (length c)
      × ((w' c' : List ℕ) → Fit CYCLE (length w') (length c') → check chains s (length w') (length c') ≡ answer)
      × (work_after answer w ≡ replicate WORK 0 ++ drop WORK w))
  check_demand_1 = go answer refl
    where
      heard : (v : Verdict) → 1 ≤ Cases.tag v → answer ≡ v → CheckHears s (length w) (length c)
          × ((w' c' : List ℕ) → Fit CYCLE (length w') (length c') → check chains s (length w') (length c') ≡ v)
          × (work_after v w ≡ replicate WORK 0 ++ drop WORK w)
      heard v l e =
          let f = fits chains s (length w) (length c) v l e in (
            f,
            λ w' c' g. page.same_verdict chains s (length w) (length c) (length w') (length c') f.0 g ∙ e,
            (Answers.check_leaves w c).1 v (λ n i q. let z : Cases.tag v ≡ 0 = ap Cases.tag q in omega arith),
          )

      go : (v : Verdict) → answer ≡ v → ((n : ℕ) × (i : ℕ) × (v ≡ Verdict.refused n i)
          × (CheckRefuses s (length w) (length c) n i)
          × (work_after v w ≡ w) × (cycle_after v c ≡ c))
          ⊎ (CheckHears s (length w) (length c)
          × ((w' c' : List ℕ) → Fit CYCLE (length w') (length c') → check chains s (length w') (length c') ≡ v)
          × (work_after v w ≡ replicate WORK 0 ++ drop WORK w))
      go (Verdict.refused n i) e = inl (
        n,
        i,
        refl,
        (check_refused chains s (length w) (length c) n i).0 e,
        (Answers.check_leaves w c).0 n i,
        (Answers.check_leaves w c).3 (Verdict.refused n i) (λ r d q. let z : ◌≡◌ {A = ℕ} 0 1 = ap Cases.tag q in omega arith),
      )
      go (Verdict.cyclic r d) e = inr (heard (Verdict.cyclic r d) (omega arith) e)
      go (Verdict.overwritten y z b) e = inr (heard (Verdict.overwritten y z b) (omega arith) e)
      go (Verdict.race x y b) e = inr (heard (Verdict.race x y b) (omega arith) e)
      go Verdict.race_free e = inr (heard Verdict.race_free (omega arith) e)
