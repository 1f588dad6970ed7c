-- A report gives each answer exactly when it is true, whatever the bytes and the buffers. Assumes nothing.
use Rattle.std.specs.Prelude.{◌≡◌, refl, Bool, true, List, ◌++◌, ◌⊎◌, ◌↔◌, length, drop, replicate, Float}
use Rattle.std.proofs.Common.{sym, ap, ◌∙◌, inl, inr, arith}
use Rattle.std.proofs.Math.Bool.{false}
use Prim.Native.Nat.{ℕ, zero, suc, ◌+◌, ◌≤◌, ◌<◌}
use Rattle.std.specs.Float.{binary64}
use Rattle.std.specs.Float.Ieee.{round}
use Rattle.finite.specs.Logic.{which, split, and_true, not_both, bool_ext}
use Rattle.finite.specs.Below.{any_below, any_out, any_off}
use Rattle.finite.specs.Count.{count_pairs, pairs_cong, pairs_zero}
use Rattle.model.specs.declared.Report.{Report}
use Rattle.model.specs.Report.{Told}
use Rattle.model.specs.Report as told
use Rattle.model.specs.Limits.{CYCLE, WORK}
use Rattle.model.specs.Table.{Table, table_under, sources_of, decode}
use Rattle.model.specs.Scope.{mutually}
use Rattle.model.specs.Race.{conflict, races}
use Rattle.model.specs.Check.{Verdict, check, work_after, cycle_after}
use Rattle.model.specs.Report.{conflict_mutual, conflict_ordered, report}
use Rattle.model.specs.Words.{WellFormed, Races, Consistent, FirstOverwrite, Cyclic}
use Rattle.model_laws.specs.AdmissionLaws.{admitted_sound, size_fits}
use Rattle.model_laws.specs.RaceLaws.{Sized, races_is}
use Rattle.model_laws.specs.ReportLaws.{ordered_is}
use Rattle.model_promises.specs.Terms.{Fit, CheckRefuses, CheckHears, CycleShown, NoConflict, SomeConflict, OrderedThroughout, Counts, Counted}
use Rattle.model_promises.specs.CheckExactly as checked
use Rattle.model_promises.specs.Report as page

-- ---- pairs and counts

-- of a test on pairs, some pass or none does
search_pairs : (p : ℕ → ℕ → Bool) (n : ℕ)
    → ((x : ℕ) × (y : ℕ) × (x < y) × (y < n) × (p x y ≡ true)) ⊎ ((x y : ℕ) → x < y → y < n → p x y ≡ false)
search_pairs p n = go (which (any_below n partner))
  where
    partner : ℕ → Bool
    partner y = any_below y (λ x. p x y)

    go : (any_below n partner ≡ true) ⊎ (any_below n partner ≡ false)
        → ((x : ℕ) × (y : ℕ) × (x < y) × (y < n) × (p x y ≡ true)) ⊎ ((x y : ℕ) → x < y → y < n → p x y ≡ false)
    go (inl e) =
        let r = any_out partner n e in
        let q = any_out (λ x. p x r.0) r.0 r.2 in
        inl (q.0, r.0, q.1, r.1, q.2)
    go (inr e) = inr (λ x y l m. any_off (λ z. p z y) y (any_off partner n e y m) x l)

-- what is counted is one number
counts_one : (t : Table) (P : ℕ → ℕ → Type 0) (n m : ℕ) → Counts t P n → Counts t P m → n ≡ m
counts_one t P n m a b =
    let same : count_pairs t.rows a.0 ≡ count_pairs t.rows b.0 =
    pairs_cong a.0 b.0 t.rows (λ x y l k.
    bool_ext (a.0 x y) (b.0 x y) (λ e. (b.1 x y l k).1 ((a.1 x y l k).0 e)) (λ e. (a.1 x y l k).1 ((b.1 x y l k).0 e)))
    in
    a.2 ∙ same ∙ sym b.2

made : ℕ → ℕ → ℕ → ℕ → Float → Report
made c m o r f = record { conflicting = c; mutuals = m; ordered = o; racing = r; share = f }

made_same : {c m o r c' m' o' r' : ℕ} {f f' : Float} → c ≡ c' → m ≡ m' → o ≡ o' → r ≡ r' → f ≡ f' → made c m o r f ≡ made c' m' o' r' f'
made_same p q u v w = rw (p, q, u, v, w) refl

counted_one : (t : Table) (a b : Report) → Counted t a → Counted t b → a ≡ b
unfolding made
counted_one t a b p q =
    let c = counts_one t _ a.conflicting b.conflicting p.conflicting q.conflicting in
    let r = counts_one t _ a.racing b.racing p.racing q.racing in
    made_same c (counts_one t _ a.mutuals b.mutuals p.mutuals q.mutuals)
    (counts_one t _ a.ordered b.ordered p.ordered q.ordered) r (p.share ∙ rw (c, r) refl ∙ sym q.share)

module _ (chains : Bool) (s : List ℕ) (work buffer : ℕ) where
  abbrev t : Table
  t = table_under chains s

  abbrev source : ℕ → ℕ
  source = sources_of s

  abbrev said : Told
  said = report chains s work buffer

  sized : WellFormed s → Sized t
  unfolding table_under decode
  sized well i l = size_fits (admitted_sound false s well) i l

  -- what an answer that counts tells of the table and the buffers
  pub heard : (a : Told) → 3 ≤ page.tag a → said ≡ a → CheckHears s work buffer × Consistent t source
  heard a l e = go (check chains s work buffer) refl
    where
      go : (v : Verdict) → check chains s work buffer ≡ v → CheckHears s work buffer × Consistent t source
      go (Verdict.refused n i) q =
          absurd (let z : page.tag a ≡ 0 = ap page.tag (sym e ∙ (page.says_refused chains s work buffer n i).1 q) in omega arith)
      go (Verdict.cyclic r d) q =
          absurd (let z : page.tag a ≡ 1 = ap page.tag (sym e ∙ (page.says_cycle chains s work buffer (length r)).1 (r, d, q, refl)) in omega arith)
      go (Verdict.overwritten y z b) q =
          absurd (let z : page.tag a ≡ 2 = ap page.tag (sym e ∙ (page.says_overwritten chains s work buffer y z b).1 q) in omega arith)
      go (Verdict.race x y b) q =
          (checked.fits chains s work buffer (Verdict.race x y b) (omega arith) q, checked.kept chains s work buffer (Verdict.race x y b) (omega arith) q)
      go Verdict.race_free q =
          (checked.fits chains s work buffer Verdict.race_free (omega arith) q, checked.kept chains s work buffer Verdict.race_free (omega arith) q)

  -- ---- each answer, exactly

  pub refused_exactly : (n i : ℕ) → (said ≡ told.refused n i) ↔ CheckRefuses s work buffer n i
  refused_exactly n i =
      let a = page.says_refused chains s work buffer n i in
      let b = checked.refused_exactly chains s work buffer n i in
      (λ e. b.0 (a.0 e), λ h. a.1 (b.1 h))

  pub cycle_exactly : (k : ℕ) → (said ≡ told.cyclic k)
      ↔ (CheckHears s work buffer × ((rows : List ℕ) × (edges : List ℕ) × CycleShown t source rows edges × (length rows ≡ k)))
  cycle_exactly k = (
    λ e.
        let p = (page.says_cycle chains s work buffer k).0 e in
        let h = (checked.cyclic_exactly chains s work buffer p.0 p.1).0 p.2 in
        (h.0, (p.0, p.1, h.1, p.3)),
    λ h.
        let w = h.1 in
        (page.says_cycle chains s work buffer k).1 (w.0, w.1, (checked.cyclic_exactly chains s work buffer w.0 w.1).1 (h.0, w.2), w.3),
  )

  pub overwritten_exactly : (y z b : ℕ) → (said ≡ told.overwritten y z b)
      ↔ (CheckHears s work buffer × (Cyclic t source → ⊥) × FirstOverwrite t source y z b)
  overwritten_exactly y z b =
      let p = page.says_overwritten chains s work buffer y z b in
      let q = checked.overwritten_exactly chains s work buffer y z b in
      (λ e. q.0 (p.0 e), λ h. p.1 (q.1 h))

  pub none_exactly : (said ≡ told.no_pairs) ↔ (CheckHears s work buffer × Consistent t source × NoConflict t)
  none_exactly = (
    λ e. let h = heard _ (omega arith) e in (h.0, h.1, (page.says_none chains s work buffer h.0.0 h.0.1 h.1).0 e),
    λ h. (page.says_none chains s work buffer h.0.0 h.0.1 h.1).1 h.2,
  )

  counted : (fit : Fit CYCLE work buffer) (well : WellFormed s) (keeps : Consistent t source) (r : Report) → said ≡ told.reported r → Counted t r
  unfolding conflict_mutual
  counted fit well keeps r e =
      record {
        conflicting = (conflict t, λ x y l m. (λ h. h, λ h. h), page.counts_conflicting chains s work buffer fit well keeps r e);
        mutuals = (conflict_mutual t, both, page.counts_mutuals chains s work buffer fit well keeps r e (conflict_mutual t) both);
        ordered = (conflict_ordered t, throughout, page.counts_ordered chains s work buffer fit well keeps r e (conflict_ordered t) throughout);
        racing = (races t, raced, page.counts_racing chains s work buffer fit well keeps r e (races t) raced);
        sum = page.sums chains s work buffer fit well keeps r e;
        share = page.share_rounded chains s work buffer fit well keeps r e;
        zero = page.share_zero chains s work buffer fit well keeps r e;
        one = page.share_one chains s work buffer fit well keeps r e;
      }
    where
      both : (x y : ℕ) → x < y → y < t.rows → (conflict_mutual t x y ≡ true) ↔ ((conflict t x y ≡ true) × (mutually t x y ≡ true))
      both x y l m = (λ h. split h, λ h. and_true h.0 h.1)

      throughout : (x y : ℕ) → x < y → y < t.rows
          → (conflict_ordered t x y ≡ true) ↔ ((conflict t x y ≡ true) × (mutually t x y ≡ false) × OrderedThroughout t x y)
      throughout x y l m = ordered_is t x y (sized well) (omega arith)

      raced : (x y : ℕ) → x < y → y < t.rows → (races t x y ≡ true) ↔ Races t x y
      raced x y l m = races_is t (sized well) x y (omega arith)

  pub report_exactly : (r : Report) → (said ≡ told.reported r) ↔ (CheckHears s work buffer × Consistent t source × SomeConflict t × Counted t r)
  report_exactly r = (
    λ e.
        let h = heard _ (omega arith) e in
        (h.0, h.1, some h.0.0 h.0.1 h.1 e (search_pairs (conflict t) t.rows), counted h.0.0 h.0.1 h.1 r e),
    λ h.
        let q = page.says_report chains s work buffer h.0.0 h.0.1 h.1 h.2 in
        q.1 ∙ ap told.reported (counted_one t q.0 r (counted h.0.0 h.0.1 h.1 q.0 q.1) h.3),
  )
    where
      some : Fit CYCLE work buffer → WellFormed s → Consistent t source → said ≡ told.reported r → SomeConflict t ⊎ NoConflict t → SomeConflict t
      some fit well keeps e (inl p) = p
      some fit well keeps e (inr n) =
          absurd (let z : ◌≡◌ {A = ℕ} 3 4 = ap page.tag (sym ((page.says_none chains s work buffer fit well keeps).1 n) ∙ e) in omega arith)

  -- ---- more of a report

  module _ (r : Report) (e : said ≡ told.reported r) where
    abbrev h : CheckHears s work buffer × Consistent t source
    h = heard (told.reported r) (omega arith) e

    pub adds_up : r.mutuals + r.ordered + r.racing ≡ r.conflicting
    adds_up = page.sums chains s work buffer h.0.0 h.0.1 h.1 r e

    -- some pair is counted
    pub conflicting_some : 0 < r.conflicting
    conflicting_some = go r.conflicting refl
      where
        go : (n : ℕ) → r.conflicting ≡ n → 0 < n
        go zero q =
            let w = (report_exactly r).0 e in
            let p = w.2 in
            let c = w.3.conflicting in
            absurd (not_both ((c.1 p.0 p.1 p.2 p.3).1 p.4) (pairs_zero c.0 t.rows (sym c.2 ∙ q) p.0 p.1 p.2 p.3))
        go (suc n) q = omega arith

    -- the share by the three parts that a caller from C has
    pub share_of_parts : r.share ≡ round binary64 false r.racing (r.mutuals + r.ordered + r.racing)
    share_of_parts = rw adds_up (page.share_rounded chains s work buffer h.0.0 h.0.1 h.1 r e)

    pub racing_none : (r.racing ≡ 0) ↔ (check chains s work buffer ≡ Verdict.race_free)
    racing_none = page.racing_free chains s work buffer h.0.0 h.0.1 h.1 r e

-- ---- demand 1, of the work area w and the cycle buffer c; in both is left what a check leaves

module _ (chains : Bool) (s w c : List ℕ) where
  abbrev judged : Verdict
  judged = check chains s (length w) (length c)

  abbrev answer : Told
  answer = report chains s (length w) (length c)

  pub report_demand_1 : ((n : ℕ) × (i : ℕ) × (answer ≡ told.refused n i) × CheckRefuses s (length w) (length c) n i
      × (work_after judged w ≡ w) × (cycle_after judged c ≡ c))
      ⊎ (CheckHears s (length w) (length c)
      × ((w' c' : List ℕ) → Fit CYCLE (length w') (length c') → report chains s (length w') (length c') ≡ answer)
      × (work_after judged w ≡ replicate WORK 0 ++ drop WORK w))
  report_demand_1 = go (checked.check_demand_1 chains s w c)
    where
      go : ((n : ℕ) × (i : ℕ) × (judged ≡ Verdict.refused n i) × CheckRefuses s (length w) (length c) n i
          × (work_after judged w ≡ w) × (cycle_after judged c ≡ c))
          ⊎ (CheckHears s (length w) (length c)
          × ((w' c' : List ℕ) → Fit CYCLE (length w') (length c') → check chains s (length w') (length c') ≡ judged)
          × (work_after judged w ≡ replicate WORK 0 ++ drop WORK w))
          → ((n : ℕ) × (i : ℕ) × (answer ≡ told.refused n i) × CheckRefuses s (length w) (length c) n i
          × (work_after judged w ≡ w) × (cycle_after judged c ≡ c))
          ⊎ (CheckHears s (length w) (length c)
          × ((w' c' : List ℕ) → Fit CYCLE (length w') (length c') → report chains s (length w') (length c') ≡ answer)
          × (work_after judged w ≡ replicate WORK 0 ++ drop WORK w))
      go (inl (n, i, e, r, a, b)) = inl (n, i, (page.says_refused chains s (length w) (length c) n i).1 e, r, a, b)
      go (inr (f, g, z)) =
          inr (f, λ w' c' k. page.same_report chains s (length w) (length c) (length w') (length c') f.0 k, z)
