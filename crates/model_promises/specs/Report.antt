-- The weekly report: refused and inconsistent tables get check's answer; of every other table, with buffers that are long enough,
-- whatever they hold, the counts and the share. Assumes nothing.
use Rattle.std.proofs.Math.Path.{◌≡◌, refl, sym, ap}
use Rattle.std.proofs.Common.{◌∙◌, inl, inr, arith, ltb-true, le-ltb, eqb-true, eq-eqb, ne_eqb}
use Rattle.std.specs.Prelude.{Bool, cond, ◌⊎◌, ◌↔◌, ℕ, zero, suc, ◌+◌, ◌≤◌, ◌<◌, length, eqb, Float}
use Rattle.std.proofs.Math.Bool.{true, false}
use mathlib.Core.List.{List}
use Rattle.std.proofs.Math.Dec.{ltb}
use Rattle.std.specs.Float.{binary64}
use Rattle.std.specs.Float.Ieee.{round}
use Rattle.std.proofs.lemmas.Bool.{eqb-false}
use Rattle.finite.specs.Logic.{which, split, and_true, not_both, not_so, bool_ext}
use Rattle.finite.specs.Count.{count_pairs, pairs_cong}
use Rattle.std.specs.declared.option.Option.{Option}
use Rattle.std.specs.declared.option.Option.TheVariants.{None, Some}
use Rattle.model.specs.declared.Report.{Report}
use Rattle.model.specs.Report.{Told}
use Rattle.model.specs.Report as told
use Rattle.model.specs.Limits.{CYCLE, ROWS}
use Rattle.model.specs.Table.{Table, table_under, sources_of, decode}
use Rattle.model.specs.Scope.{mutually}
use Rattle.model.specs.Race.{conflict, races, race_row, race_partner, race_byte}
use Rattle.model.specs.Edge.{cycle_row, over_reader}
use Rattle.model.specs.Refusal.{buffers_fit, when_admitted}
use Rattle.model.specs.Check.{Verdict, refused, cyclic, overwritten, race, race_free, race_or, overwritten_or, cyclic_or, verdict, check, check_answer}
use Rattle.model.specs.Report.{conflict_mutual, conflict_ordered, conflicting, mutuals, ordered, racing}
use Rattle.model.specs.Report.{quotient, share_of, report_of, with_share, report_on, report_answer, report}
use Rattle.model.specs.Words.{Races, Consistent, WellFormed}
use Rattle.model_laws.specs.AdmissionLaws.{admitted_sound, rows_fit, size_fits}
use Rattle.model_laws.specs.RaceLaws.{Sized, races_is, race_none}
use Rattle.model_laws.specs.AxiomLaws.{cyclic_is, overwritten_is}
use Rattle.model_laws.specs.ShareLaws.{MOST, zero_float, one_float, zero_is, one_is}
use Rattle.model_laws.specs.ReportLaws.{Throughout, ordered_is, adds_up, counts_fit_lem, conflicting_none, racing_none, racing_all}
use Rattle.model_promises.specs.Searches.{stuck}
use Rattle.model_promises.specs.Check.{same_verdict}

-- ---- definitions: which case of an answer was given, and what it carries

abbrev pub tag : Told → ℕ
tag (told.refused n i) = 0
tag (told.cyclic k) = 1
tag (told.overwritten y z b) = 2
tag told.no_pairs = 3
tag (told.reported r) = 4

abbrev first : Told → ℕ
first (told.refused n i) = n
first (told.cyclic k) = k
first (told.overwritten y z b) = y
first told.no_pairs = 0
first (told.reported r) = 0

abbrev second : Told → ℕ
second (told.refused n i) = i
second (told.cyclic k) = 0
second (told.overwritten y z b) = z
second told.no_pairs = 0
second (told.reported r) = 0

abbrev third : Told → ℕ
third (told.refused n i) = 0
third (told.cyclic k) = 0
third (told.overwritten y z b) = b
third told.no_pairs = 0
third (told.reported r) = 0

abbrev pub inside : Report → Told → Report
inside d (told.refused n i) = d
inside d (told.cyclic k) = d
inside d (told.overwritten y z b) = d
inside d told.no_pairs = d
inside d (told.reported r) = r

abbrev raced : Verdict → ℕ
raced (refused n i) = 0
raced (cyclic rows edges) = 0
raced (overwritten y z b) = 0
raced (race x y b) = 1
raced race_free = 0

positive : (n : ℕ) → (n ≡ 0 → ⊥) → 0 < n
positive zero f = absurd (f refl)
positive (suc n) f = omega arith

-- what is report_on is no answer of a check's
counted_tag : (t : Table) → 3 ≤ tag (report_on t)
unfolding report_on with_share
counted_tag t = go (share_of (racing t) (conflicting t))
  where
    go : (h : Option Float) → 3 ≤ tag (with_share h t)
    go None = omega arith
    go (Some f) = omega arith

-- ---- check's answer, and no report

-- for one table, refused or not, and any buffers that are long enough the answer is the same
pub same_report : (chains : Bool) (s : List ℕ) (work buffer work' buffer' : ℕ) → buffers_fit CYCLE work buffer ≡ true → buffers_fit CYCLE work' buffer' ≡ true
    → report chains s work' buffer' ≡ report chains s work buffer
unfolding report
same_report chains s work buffer work' buffer' h k =
    ap (λ (v : Verdict). report_answer (check_answer v) (table_under chains s)) (same_verdict chains s work buffer work' buffer' h k)

module _ (chains : Bool) (s : List ℕ) (work buffer : ℕ) where
  -- whatever the table and the buffers: refused with a number and row exactly where a check refuses with them
  pub says_refused : (n i : ℕ) → (report chains s work buffer ≡ told.refused n i) ↔ (check chains s work buffer ≡ refused n i)
  unfolding report report_answer check_answer
  says_refused n i = (λ e. forth (check chains s work buffer) e, λ e. rw e refl)
    where
      forth : (v : Verdict) → report_answer (check_answer v) (table_under chains s) ≡ told.refused n i → v ≡ refused n i
      forth (refused m j) e = rw (ap first e, ap second e) refl
      forth (cyclic r d) e = absurd (let z : ◌≡◌ {A = ℕ} 1 0 = ap tag e in omega arith)
      forth (overwritten y z b) e = absurd (let z : ◌≡◌ {A = ℕ} 2 0 = ap tag e in omega arith)
      forth (race x y b) e = absurd (let z : tag (report_on (table_under chains s)) ≡ 0 = ap tag e in omega (arith, counted_tag (table_under chains s)))
      forth race_free e = absurd (let z : tag (report_on (table_under chains s)) ≡ 0 = ap tag e in omega (arith, counted_tag (table_under chains s)))

  -- a cycle of so many rows exactly where a check shows one; its numbers are left where a check leaves them
  pub says_cycle : (k : ℕ) → (report chains s work buffer ≡ told.cyclic k)
      ↔ ((rows : List ℕ) × (edges : List ℕ) × (check chains s work buffer ≡ cyclic rows edges) × (length rows ≡ k))
  unfolding report report_answer check_answer
  says_cycle k = (λ e. forth (check chains s work buffer) e, λ e. let l = e.3 in rw (e.2, l) refl)
    where
      forth : (v : Verdict) → report_answer (check_answer v) (table_under chains s) ≡ told.cyclic k
          → (rows : List ℕ) × (edges : List ℕ) × (v ≡ cyclic rows edges) × (length rows ≡ k)
      forth (refused m j) e = absurd (let z : ◌≡◌ {A = ℕ} 0 1 = ap tag e in omega arith)
      forth (cyclic r d) e = (r, d, refl, ap first e)
      forth (overwritten y z b) e = absurd (let z : ◌≡◌ {A = ℕ} 2 1 = ap tag e in omega arith)
      forth (race x y b) e = absurd (let z : tag (report_on (table_under chains s)) ≡ 1 = ap tag e in omega (arith, counted_tag (table_under chains s)))
      forth race_free e = absurd (let z : tag (report_on (table_under chains s)) ≡ 1 = ap tag e in omega (arith, counted_tag (table_under chains s)))

  pub says_overwritten : (y z b : ℕ) → (report chains s work buffer ≡ told.overwritten y z b) ↔ (check chains s work buffer ≡ overwritten y z b)
  unfolding report report_answer check_answer
  says_overwritten y z b = (λ e. forth (check chains s work buffer) e, λ e. rw e refl)
    where
      forth : (v : Verdict) → report_answer (check_answer v) (table_under chains s) ≡ told.overwritten y z b → v ≡ overwritten y z b
      forth (refused m j) e = absurd (let z : ◌≡◌ {A = ℕ} 0 2 = ap tag e in omega arith)
      forth (cyclic r d) e = absurd (let z : ◌≡◌ {A = ℕ} 1 2 = ap tag e in omega arith)
      forth (overwritten u v c) e = rw (ap first e, ap second e, ap third e) refl
      forth (race u v c) e = absurd (let z : tag (report_on (table_under chains s)) ≡ 2 = ap tag e in omega (arith, counted_tag (table_under chains s)))
      forth race_free e = absurd (let z : tag (report_on (table_under chains s)) ≡ 2 = ap tag e in omega (arith, counted_tag (table_under chains s)))

-- ---- of a consistent table

module _ (chains : Bool) (s : List ℕ) (work buffer : ℕ) (fit : buffers_fit CYCLE work buffer ≡ true) (well : WellFormed s) where
  abbrev t : Table
  t = table_under chains s

  abbrev source : ℕ → ℕ
  source = sources_of s

  sized : Sized t
  unfolding table_under decode
  sized i l = size_fits (admitted_sound false s well) i l

  few : t.rows ≤ ROWS
  unfolding table_under decode
  few = rows_fit (admitted_sound false s well)

  module _ (c : Consistent t source) where
    checked : check chains s work buffer ≡ race_or race race_free t
    unfolding check when_admitted verdict cyclic_or overwritten_or
    checked = rw (fit, well, acyclic, unbroken) refl
      where
        acyclic : ltb (cycle_row t source) t.rows ≡ false
        acyclic = not_so _ (λ e. c.0 ((cyclic_is t source).0 (ltb-true _ _ e)))

        unbroken : ltb (over_reader t source) t.rows ≡ false
        unbroken = not_so _ (λ e. c.1 ((overwritten_is t source sized).0 (ltb-true _ _ e)))

    reported : report chains s work buffer ≡ report_on t
    unfolding report race_or report_answer check_answer
    reported = rw checked (go (ltb (race_row t) t.rows))
      where
        go : (b : Bool)
            → report_answer (check_answer (cond b (race (race_row t) (race_partner t (race_row t)) (race_byte t (race_row t) (race_partner t (race_row t)))) race_free)) t
            ≡ report_on t
        go true = refl
        go false = refl

    none_told : conflicting t ≡ 0 → report chains s work buffer ≡ told.no_pairs
    unfolding report_on share_of with_share
    none_told e = reported ∙ rw (eq-eqb (conflicting t) 0 e) refl

    some_told : (conflicting t ≡ 0 → ⊥) → report chains s work buffer ≡ told.reported (report_of t (quotient (racing t) (conflicting t)))
    unfolding report_on share_of with_share
    some_told f = reported ∙ rw (ne_eqb (conflicting t) 0 f) refl

    -- no pairs is said exactly when no pair conflicts; it is another answer than any report
    pub says_none : (report chains s work buffer ≡ told.no_pairs) ↔ ((x y : ℕ) → x < y → y < t.rows → conflict t x y ≡ false)
    says_none = (λ e. (conflicting_none t).0 (none e (which (eqb (conflicting t) 0))), λ f. none_told ((conflicting_none t).1 f))
      where
        none : report chains s work buffer ≡ told.no_pairs → (eqb (conflicting t) 0 ≡ true) ⊎ (eqb (conflicting t) 0 ≡ false) → conflicting t ≡ 0
        none e (inl h) = eqb-true (conflicting t) 0 h
        none e (inr h) = absurd (let z : ◌≡◌ {A = ℕ} 4 3 = ap tag (sym (some_told (eqb-false (conflicting t) 0 h)) ∙ e) in omega arith)

    -- some pair conflicts: there is a report
    pub says_report : ((x : ℕ) × (y : ℕ) × (x < y) × (y < t.rows) × (conflict t x y ≡ true)) → (r : Report) × (report chains s work buffer ≡ told.reported r)
    says_report p = (_, some_told (λ e. not_both p.4 ((conflicting_none t).0 e p.0 p.1 p.2 p.3)))

    module _ (r : Report) (said : report chains s work buffer ≡ told.reported r) where
      some : conflicting t ≡ 0 → ⊥
      some e = let z : ◌≡◌ {A = ℕ} 3 4 = ap tag (sym (none_told e) ∙ said) in omega arith

      is : report_of t (quotient (racing t) (conflicting t)) ≡ r
      is = ap (inside r) (sym (some_told some) ∙ said)

      conflicting_is : conflicting t ≡ r.conflicting
      unfolding report_of
      conflicting_is = ap (λ (q : Report). q.conflicting) is

      mutuals_is : mutuals t ≡ r.mutuals
      unfolding report_of
      mutuals_is = ap (λ (q : Report). q.mutuals) is

      ordered_is' : ordered t ≡ r.ordered
      unfolding report_of
      ordered_is' = ap (λ (q : Report). q.ordered) is

      racing_is : racing t ≡ r.racing
      unfolding report_of
      racing_is = ap (λ (q : Report). q.racing) is

      share_is : quotient (racing t) (conflicting t) ≡ r.share
      unfolding report_of
      share_is = ap (λ (q : Report). q.share) is

      -- ---- each count is that of the pairs x < y of which its words hold, whichever test decides them

      pub counts_conflicting : r.conflicting ≡ count_pairs t.rows (conflict t)
      unfolding conflicting
      counts_conflicting = sym conflicting_is

      pub counts_mutuals : (p : ℕ → ℕ → Bool) → ((x y : ℕ) → x < y → y < t.rows → (p x y ≡ true) ↔ ((conflict t x y ≡ true) × (mutually t x y ≡ true)))
          → r.mutuals ≡ count_pairs t.rows p
      unfolding mutuals conflict_mutual
      counts_mutuals p h =
          sym mutuals_is
          ∙ pairs_cong (conflict_mutual t) p t.rows (λ x y l m.
          bool_ext _ (p x y) (λ e. (h x y l m).1 (split e)) (λ e. let q = (h x y l m).0 e in and_true q.0 q.1))

      pub counts_ordered : (p : ℕ → ℕ → Bool)
          → ((x y : ℕ) → x < y → y < t.rows → (p x y ≡ true) ↔ ((conflict t x y ≡ true) × (mutually t x y ≡ false) × Throughout t x y))
          → r.ordered ≡ count_pairs t.rows p
      unfolding ordered
      counts_ordered p h =
          sym ordered_is'
          ∙ pairs_cong (conflict_ordered t) p t.rows (λ x y l m.
          let w = ordered_is t x y sized (omega arith) in
          bool_ext _ (p x y) (λ e. (h x y l m).1 (w.0 e)) (λ e. w.1 ((h x y l m).0 e)))

      pub counts_racing : (p : ℕ → ℕ → Bool) → ((x y : ℕ) → x < y → y < t.rows → (p x y ≡ true) ↔ Races t x y) → r.racing ≡ count_pairs t.rows p
      unfolding racing
      counts_racing p h =
          sym racing_is
          ∙ pairs_cong (races t) p t.rows (λ x y l m.
          let w = races_is t sized x y (omega arith) in
          bool_ext _ (p x y) (λ e. (h x y l m).1 (w.0 e)) (λ e. w.1 ((h x y l m).0 e)))

      -- the last three add up to the first
      pub sums : r.mutuals + r.ordered + r.racing ≡ r.conflicting
      sums = rw (← mutuals_is, ← ordered_is', ← racing_is, ← conflicting_is) (adds_up t)

      -- ---- the share

      -- one division, of which the exact quotient is rounded once
      pub share_rounded : r.share ≡ round binary64 false r.racing r.conflicting
      unfolding quotient
      share_rounded = rw (← racing_is, ← conflicting_is) (sym share_is)

      fits : conflicting t ≤ MOST
      unfolding conflicting
      fits = counts_fit_lem t (conflict t) few

      -- 0.0 exactly when nothing races
      pub share_zero : (r.share ≡ zero_float) ↔ ((x y : ℕ) → x < y → y < t.rows → Races t x y → ⊥)
      share_zero = (
        λ e x y l m h. not_both ((races_is t sized x y (omega arith)).1 h) ((racing_none t).0 (q.0 (share_is ∙ e)) x y l m),
        λ f. sym share_is ∙ q.1 ((racing_none t).1 (λ x y l m. not_so _ (λ e. f x y l m ((races_is t sized x y (omega arith)).0 e)))),
      )
        where
          q : (quotient (racing t) (conflicting t) ≡ zero_float) ↔ (racing t ≡ 0)
          q = zero_is (racing t) (conflicting t) fits (positive (conflicting t) some)

      -- 1.0 exactly when every conflicting pair races
      pub share_one : (r.share ≡ one_float) ↔ ((x y : ℕ) → x < y → y < t.rows → conflict t x y ≡ true → Races t x y)
      share_one = (
        λ e x y l m h. (races_is t sized x y (omega arith)).0 ((racing_all t).0 (q.0 (share_is ∙ e)) x y l m h),
        λ f. sym share_is ∙ q.1 ((racing_all t).1 (λ x y l m h. (races_is t sized x y (omega arith)).1 (f x y l m h))),
      )
        where
          q : (quotient (racing t) (conflicting t) ≡ one_float) ↔ (racing t ≡ conflicting t)
          q = one_is (racing t) (conflicting t) fits (positive (conflicting t) some) (omega (arith, adds_up t))

      -- none races exactly when a check says race-free
      pub racing_free : (r.racing ≡ 0) ↔ (check chains s work buffer ≡ race_free)
      unfolding race_or
      racing_free = (λ e. checked ∙ free (racing_is ∙ e), λ e. sym racing_is ∙ none (ltb (race_row t) t.rows) refl (sym checked ∙ e))
        where
          shown : Verdict
          shown = race (race_row t) (race_partner t (race_row t)) (race_byte t (race_row t) (race_partner t (race_row t)))

          free : racing t ≡ 0 → cond (ltb (race_row t) t.rows) shown race_free ≡ race_free
          free e =
              let n = (race_none t sized).1 (λ x y l m h. not_both ((races_is t sized x y (omega arith)).1 h) ((racing_none t).0 e x y l m)) in
              rw (le-ltb (race_row t) t.rows (omega arith)) refl

          none : (b : Bool) → ltb (race_row t) t.rows ≡ b → cond b shown race_free ≡ race_free → racing t ≡ 0
          none true h e = absurd (let z : ◌≡◌ {A = ℕ} 1 0 = ap raced e in omega arith)
          none false h e =
              (racing_none t).1 (λ x y l m. not_so _ (λ q. (race_none t sized).0 (stuck t h) x y l m ((races_is t sized x y (omega arith)).0 q)))
