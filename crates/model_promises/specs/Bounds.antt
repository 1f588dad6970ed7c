-- Every number of an answer is below 65536, whatever the bytes and the buffers. Assumes nothing.
use Rattle.std.specs.Prelude.{◌≡◌, refl, Bool, false, cond, List, ℕ, ◌+◌, ◌≤◌, ◌<◌, length, ltb, leb, eqb}
use Rattle.std.proofs.Common.{ap, inl, inr, ltb-true, leb-true, eqb-true}
use Rattle.std.proofs.Math.Bool.{true}
use native.Mathlib.Omega.{arith}
use Rattle.finite.specs.Logic.{split}
use Rattle.finite.specs.Below.{least}
use Rattle.model.specs.declared.Admission.{Admission}
use Rattle.model.specs.declared.Admission.TheVariants.{Admitted, Refused}
use Rattle.model.specs.declared.Report.{Report}
use Rattle.model.specs.Report.{Told}
use Rattle.model.specs.Report as told
use Rattle.model.specs.Limits.{ROWS, CLASS_SETS}
use Rattle.model.specs.Row.{touches, access, operation}
use Rattle.model.specs.Table.{Table, row_of, source_of, table_under, table_of, sources_of, decode}
use Rattle.model.specs.Header.{HEADER, agents_at, rows_at, has_hosts, places_of, row_bytes}
use Rattle.model.specs.Scope.{agent_kind}
use Rattle.model.specs.Edge.{overwrites}
use Rattle.model.specs.Refusal.{shape_or, version_fits, limits_fit, length_fits, agents_known, dependencies_few, dependencies_named, hosts_fault, header_fault}
use Rattle.model.specs.Refusal.{row_fault_at}
use Rattle.model.specs.TableFault.{table_fault, class_taken}
use Rattle.model.specs.RowFault.{codes_fit, agent_fits, operation_fits, kind_fits, extent_fits, form_fault, row_fault}
use Rattle.model.specs.Refusal.{faulty, first_fault, admission}
use Rattle.model.specs.TableFault.{source_broken, rank_taken, instance_broken, unfit}
use Rattle.model.specs.Check.{Verdict, check}
use Rattle.model.specs.Fill.{Outcome, fill}
use Rattle.model.specs.Reason.{Judged, Derived, derive}
use Rattle.model.specs.Report.{report}
use Rattle.model.specs.Words.{FirstRace, FirstOverwrite}
use Rattle.model_laws.specs.AdmissionLaws.{admitted_sound, rows_fit, access_end}
use Rattle.model_laws.specs.PairLaws.{inside_out, common_out}
use Rattle.model_laws.specs.ChoiceLaws.{before_common}
use Rattle.model_laws.specs.ReportLaws.{counts_fit_lem}
use Rattle.model_promises.specs.Terms.{Fillable, CheckRefuses, FillRefuses, ReaderRefuses, DeriveRefuses}
use Rattle.model_promises.specs.Bridges.{well_fillable}
use Rattle.model_promises.specs.CheckExactly as checks
use Rattle.model_promises.specs.FillExactly as fills
use Rattle.model_promises.specs.ReasonExactly as reasons
use Rattle.model_promises.specs.ReportExactly as reports

abbrev pub SMALL : ℕ
SMALL = 65536

-- ---- a refusal's number and row

abbrev number : Admission → ℕ
number (Refused n i) = n
number (Admitted a r) = 0

abbrev row : Admission → ℕ
row (Refused n i) = i
row (Admitted a r) = 0

header_most : (s : List ℕ) → header_fault s ≤ 18
unfolding header_fault hosts_fault shape_or
header_most s = go (leb HEADER (length s)) (version_fits s) (limits_fit s) (length_fits s) (agents_known s) (dependencies_few s) (dependencies_named s)
  where
    go : (a b c d f g h : Bool) → cond {A = ℕ} a (cond b (cond c (cond d (cond f (cond g (cond h 0 18) 17) 16) 4) 3) 2) 1 ≤ 18
    go false b c d f g h = omega arith
    go true false c d f g h = omega arith
    go true true false d f g h = omega arith
    go true true true false f g h = omega arith
    go true true true true false g h = omega arith
    go true true true true true false h = omega arith
    go true true true true true true false = omega arith
    go true true true true true true true = omega arith

header_rows : (s : List ℕ) → header_fault s ≡ 0 → rows_at s ≤ ROWS
unfolding header_fault limits_fit shape_or
header_rows s e = leb-true (rows_at s) ROWS (split (go (leb HEADER (length s)) (version_fits s) (limits_fit s) (length_fits s) (hosts_fault s) e)).1
  where
    go : (a b c d : Bool) (n : ℕ) → ◌≡◌ {A = ℕ} (cond a (cond b (cond c (cond d n 4) 3) 2) 1) 0 → c ≡ true
    go true true true d n q = refl
    go true true false d n q = absurd (omega arith)
    go true false c d n q = absurd (omega arith)
    go false b c d n q = absurd (omega arith)

row_most : (s : List ℕ) (j : ℕ) → row_fault_at s j ≤ 20
unfolding row_fault_at row_fault form_fault
row_most s j =
    let r = row_of (row_bytes s) j in
    let a = source_of (row_bytes s) j in
    go (codes_fit (has_hosts s) (agents_at s) r) (agent_fits (agent_kind (places_of s) r.agent) r) (operation r) (operation_fits r a) (kind_fits r a) (extent_fits r)
  where
    go : (a b c d f g : Bool) → cond {A = ℕ} a (cond b (cond c (cond d 0 20) (cond f (cond g 0 7) 6)) 19) 5 ≤ 20
    go false b c d f g = omega arith
    go true false c d f g = omega arith
    go true true true true f g = omega arith
    go true true true false f g = omega arith
    go true true false d true true = omega arith
    go true true false d true false = omega arith
    go true true false d false g = omega arith

among_most : (blanks : Bool) (t : Table) (source : ℕ → ℕ) (j : ℕ) → table_fault blanks t source j ≤ 15
unfolding table_fault
among_most blanks t source j = go (class_taken t j) (source_broken blanks t source j) (rank_taken t j) (instance_broken t j) (unfit t j)
  where
    go : (a b c d f : Bool) → cond {A = ℕ} a 8 (cond b 9 (cond c 10 (cond d 14 (cond f 15 0)))) ≤ 15
    go true b c d f = omega arith
    go false true c d f = omega arith
    go false false true d f = omega arith
    go false false false true f = omega arith
    go false false false false true = omega arith
    go false false false false false = omega arith

first_small : (f : ℕ → ℕ) (k : ℕ) (next : Admission) → ((j : ℕ) → f j ≤ 20) → k ≤ ROWS → ((n i : ℕ) → next ≡ Refused n i → (n ≤ 20) × (i ≤ ROWS))
    → (n i : ℕ) → first_fault f k next ≡ Refused n i → (n ≤ 20) × (i ≤ ROWS)
unfolding first_fault
first_small f k next h m rest n i e = go (ltb (least k (faulty f)) k) refl e
  where
    go : (b : Bool) → ltb (least k (faulty f)) k ≡ b → cond b (Refused (f (least k (faulty f))) (least k (faulty f))) next ≡ Refused n i → (n ≤ 20) × (i ≤ ROWS)
    go true l q =
        let a : f (least k (faulty f)) ≡ n = ap number q in
        let b : least k (faulty f) ≡ i = ap row q in
        let c = h (least k (faulty f)) in
        let d = ltb-true (least k (faulty f)) k l in
        (omega arith, omega arith)
    go false l q = rest n i q

pub admission_small : (blanks : Bool) (s : List ℕ) (n i : ℕ) → admission blanks s ≡ Refused n i → (n ≤ 20) × (i ≤ ROWS)
unfolding admission
admission_small blanks s n i e = go (eqb (header_fault s) 0) refl e
  where
    go : (b : Bool) → eqb (header_fault s) 0 ≡ b → cond b
        (first_fault (row_fault_at s) (rows_at s) (first_fault (table_fault blanks (table_of s) (sources_of s)) (rows_at s) (Admitted (agents_at s) (rows_at s))))
        (Refused (header_fault s) 0) ≡ Refused n i → (n ≤ 20) × (i ≤ ROWS)
    go false l q =
        let a : header_fault s ≡ n = ap number q in
        let b : ◌≡◌ {A = ℕ} 0 i = ap row q in
        let c = header_most s in
        (omega arith, omega arith)
    go true l q =
        let m = header_rows s (eqb-true (header_fault s) 0 l) in
        first_small (row_fault_at s) (rows_at s) _ (row_most s) m
        (first_small (table_fault blanks (table_of s) (sources_of s)) (rows_at s) _ (λ j. let h = among_most blanks (table_of s) (sources_of s) j in omega arith) m
        (λ a b p. absurd (let z : ◌≡◌ {A = ℕ} 0 1 = ap refused p in omega arith))) n i q
      where
        refused : Admission → ℕ
        refused (Refused x y) = 1
        refused (Admitted x y) = 0

-- ---- rows and bytes of an accepted table

module _ (s : List ℕ) (well : Fillable s) (chains : Bool) where
  pub rows_small : (table_under chains s).rows ≤ ROWS
  unfolding table_under decode
  rows_small = rows_fit (admitted_sound true s well)

  -- a byte of a row
  byte_small : (x b : ℕ) → x < (table_under chains s).rows → access ((table_under chains s).row x) ≡ true → touches ((table_under chains s).row x) b ≡ true
      → b < SMALL
  unfolding table_under decode touches
  byte_small x b l a e =
      let p = (inside_out _ _ b e).1 in
      let q = access_end (admitted_sound true s well) x l a in
      omega arith

  pub race_small : (x y b : ℕ) → FirstRace (table_under chains s) x y b → (x < SMALL) × (y < SMALL) × (b < SMALL)
  race_small x y b r =
      let p = r.below in
      let q = r.rows in
      let m = rows_small in
      let c = common_out _ _ b r.open_byte.0 in
      (omega arith, omega arith, byte_small y b q c.1 c.3)

  pub overwrite_small : (source : ℕ → ℕ) (y z b : ℕ) → FirstOverwrite (table_under chains s) source y z b → (y < SMALL) × (z < SMALL) × (b < SMALL)
  unfolding overwrites
  overwrite_small source y z b o =
      let p = o.reader in
      let q = o.writer in
      let m = rows_small in
      let c = common_out _ _ b (before_common (table_under chains s) z y b (split o.broken).1) in
      (omega arith, omega arith, byte_small y b p c.1 c.3)

-- ---- each answer's numbers

pub check_refusal : (s : List ℕ) (work buffer n i : ℕ) → CheckRefuses s work buffer n i → (n < SMALL) × (i < SMALL)
check_refusal s work buffer n i (inl p) = let a = p.1 in let b = p.2 in (omega arith, omega arith)
check_refusal s work buffer n i (inr p) = let q = admission_small false s n i p.1 in let a = q.0 in let b = q.1 in (omega arith, omega arith)

pub fill_refusal : (s : List ℕ) (work buffer n i : ℕ) → FillRefuses s work buffer n i → (n < SMALL) × (i < SMALL)
fill_refusal s work buffer n i (inl p) = let a = p.1 in let b = p.2 in (omega arith, omega arith)
fill_refusal s work buffer n i (inr p) = let q = admission_small true s n i p.1 in let a = q.0 in let b = q.1 in (omega arith, omega arith)

pub reader_refusal : (s : List ℕ) (m k n i : ℕ) → ReaderRefuses s m k n i → (n < SMALL) × (i < SMALL)
reader_refusal s m k n i (inl p) = let q = admission_small true s n i p in let a = q.0 in let b = q.1 in (omega arith, omega arith)
reader_refusal s m k n i (inr p) = let a = p.2 in let b = p.3 in (omega arith, omega arith)

pub derive_refusal : (s : List ℕ) (m k work buffer n i : ℕ) → DeriveRefuses s m k work buffer n i → (n < SMALL) × (i < SMALL)
derive_refusal s m k work buffer n i (inl p) = let a = p.1 in let b = p.2 in (omega arith, omega arith)
derive_refusal s m k work buffer n i (inr p) = reader_refusal s m k n i p.1

abbrev pub SmallVerdict : Verdict → Type 0
SmallVerdict (Verdict.refused n i) = (n < SMALL) × (i < SMALL)
SmallVerdict (Verdict.cyclic rows edges) = length rows < SMALL
SmallVerdict (Verdict.overwritten y z b) = (y < SMALL) × (z < SMALL) × (b < SMALL)
SmallVerdict (Verdict.race x y b) = (x < SMALL) × (y < SMALL) × (b < SMALL)
SmallVerdict Verdict.race_free = Unit

abbrev pub SmallReport : Told → Type 0
SmallReport (told.refused n i) = (n < SMALL) × (i < SMALL)
SmallReport (told.cyclic k) = k < SMALL
SmallReport (told.overwritten y z b) = (y < SMALL) × (z < SMALL) × (b < SMALL)
SmallReport told.no_pairs = Unit
SmallReport (told.reported r) = (0 < r.conflicting) × (r.mutuals + r.ordered + r.racing ≡ r.conflicting)
    × (r.mutuals < SMALL) × (r.ordered < SMALL) × (r.racing < SMALL)

-- of a table of so many rows
abbrev pub SmallOutcome : ℕ → Outcome → Type 0
SmallOutcome rows (Outcome.refused n i) = (n < SMALL) × (i < SMALL)
SmallOutcome rows (Outcome.race x y b) = (x < SMALL) × (y < SMALL) × (b < SMALL)
SmallOutcome rows Outcome.none = Unit
SmallOutcome rows (Outcome.filled l) = rows < SMALL

module _ (chains : Bool) (s : List ℕ) (work buffer : ℕ) where
  pub verdict_small : (v : Verdict) → check chains s work buffer ≡ v → SmallVerdict v
  verdict_small (Verdict.refused n i) e = check_refusal s work buffer n i ((checks.refused_exactly chains s work buffer n i).0 e)
  verdict_small (Verdict.cyclic rows edges) e =
      let h = (checks.cyclic_exactly chains s work buffer rows edges).0 e in
      let m = rows_small s (well_fillable s h.0.1) chains in
      let l = h.1.0.rows in
      omega arith
  verdict_small (Verdict.overwritten y z b) e =
      let h = (checks.overwritten_exactly chains s work buffer y z b).0 e in
      overwrite_small s (well_fillable s h.0.1) chains (sources_of s) y z b h.2
  verdict_small (Verdict.race x y b) e =
      let h = (checks.race_exactly chains s work buffer x y b).0 e in
      race_small s (well_fillable s h.0.1) chains x y b h.2
  verdict_small Verdict.race_free e = tt

  pub outcome_small : (o : Outcome) → fill chains s work buffer ≡ o → SmallOutcome (rows_at s) o
  outcome_small (Outcome.refused n i) e = fill_refusal s work buffer n i ((fills.refused_exactly chains s work buffer n i).0 e)
  outcome_small (Outcome.race x y b) e =
      let h = (fills.race_exactly chains s work buffer x y b).0 e in
      race_small s h.0.1 chains x y b h.1
  outcome_small Outcome.none e = tt
  outcome_small (Outcome.filled l) e =
      let h = fills.fits chains s work buffer (Outcome.filled l) (omega arith) e in
      let m = rows_fit (admitted_sound true s h.1) in
      omega arith

  -- the counts of a report
  pub counts_small : (r : Report) → report chains s work buffer ≡ told.reported r → (r.mutuals < SMALL) × (r.ordered < SMALL) × (r.racing < SMALL)
  counts_small r e =
      let h = (reports.report_exactly chains s work buffer r).0 e in
      let c = h.3.conflicting in
      let m = counts_fit_lem (table_under chains s) c.0 (rows_small s (well_fillable s h.0.1) chains) in
      let q = c.2 in
      let a = reports.adds_up chains s work buffer r e in
      (omega arith, omega arith, omega arith)

  pub report_small : (a : Told) → report chains s work buffer ≡ a → SmallReport a
  report_small (told.refused n i) e = check_refusal s work buffer n i ((reports.refused_exactly chains s work buffer n i).0 e)
  report_small (told.cyclic k) e =
      let h = (reports.cycle_exactly chains s work buffer k).0 e in
      let m = rows_small s (well_fillable s h.0.1) chains in
      let w = h.1 in
      let l = w.2.0.rows in
      let q = w.3 in
      omega arith
  report_small (told.overwritten y z b) e =
      let h = (reports.overwritten_exactly chains s work buffer y z b).0 e in
      overwrite_small s (well_fillable s h.0.1) chains (sources_of s) y z b h.2
  report_small told.no_pairs e = tt
  report_small (told.reported r) e =
      let c = counts_small r e in
      (reports.conflicting_some chains s work buffer r e, reports.adds_up chains s work buffer r e, c.0, c.1, c.2)

-- a class set and a number of steps
abbrev pub SmallDerived : Derived → Type 0
SmallDerived (Derived.refused n i) = (n < SMALL) × (i < SMALL)
SmallDerived Derived.word = Unit
SmallDerived (Derived.chained c l) = (c ≤ CLASS_SETS) × (length l < SMALL)
SmallDerived Derived.not_before = Unit

pub derived_small : (s : List ℕ) (m k work buffer : ℕ) (d : Derived) → derive s m k work buffer ≡ d → SmallDerived d
derived_small s m k work buffer (Derived.refused n i) e = derive_refusal s m k work buffer n i ((reasons.finder_refused_exactly s m k work buffer n i).0 e)
derived_small s m k work buffer Derived.word e = tt
derived_small s m k work buffer (Derived.chained c l) e =
    let h = (reasons.chain_found s m k work buffer c l e).1 in
    let n = h.3 in
    (h.1, omega arith)
derived_small s m k work buffer Derived.not_before e = tt

abbrev pub SmallJudged : Judged → Type 0
SmallJudged (Judged.refused n i) = (n < SMALL) × (i < SMALL)
SmallJudged Judged.accepted = Unit
SmallJudged Judged.not_accepted = Unit
