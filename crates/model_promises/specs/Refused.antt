-- When an answer is a refusal, exactly: for the lent buffers (11), else for what `admission` says of the table, else, of two numbers that are not
-- two moments, 12. Assumes nothing.
use Rattle.std.proofs.Math.Path.{◌≡◌, ap}
use Rattle.std.specs.Prelude.{refl, Bool, true, false, cond, List, ◌⊎◌, ◌↔◌, ℕ, ◌≤◌, ltb}
use Rattle.std.proofs.Common.{sym, arith}
use Rattle.std.proofs.Math.Logic.{inl, inr, ⊎_elim}
use Rattle.finite.specs.Logic.{◌and◌, not_both}
use Rattle.finite.specs.Below.{least}
use Rattle.model.specs.declared.Admission.{Admission}
use Rattle.model.specs.declared.Admission.TheVariants.{Admitted, Refused}
use Rattle.model.specs.declared.Reason.{Reason}
use Rattle.model.specs.Limits.{CYCLE, SOURCES, STEPS, CLASS_SETS}
use Rattle.model.specs.Table.{Table, table_under, table_of, sources_of}
use Rattle.model.specs.Header.{agents_at, rows_at}
use Rattle.model.specs.Moment.{program_order}
use Rattle.model.specs.Race.{race_row}
use Rattle.model.specs.Edge.{cycle_row, over_reader, consistent}
use Rattle.model.specs.Refusal.{buffers_fit, admission, when_admitted}
use Rattle.model.specs.Check.{Verdict, race_or, overwritten_or, cyclic_or, verdict, check}
use Rattle.model.specs.Fill.{Outcome, filled_or, outcome, chosen, sources_fit, fill}
use Rattle.model.specs.Reason.{Judged, Derived, two_moments, accepts, judged, judge, chain_or, has_chain_by, ours, derived_of, derive}
use Rattle.model_laws.specs.AdmissionLaws.{admitted_sound, sound_admitted}
use Rattle.model_promises.specs.Cases
use Rattle.model_promises.specs.Outcomes

-- ---- definitions

abbrev Admits : Admission → Type 0
Admits a = (x : ℕ) × (y : ℕ) × (a ≡ Admitted x y)

abbrev number : Admission → ℕ
number (Refused n i) = n
number (Admitted a r) = 0

abbrev row : Admission → ℕ
row (Refused n i) = i
row (Admitted a r) = 0

abbrev is_refused : Admission → ℕ
is_refused (Refused n i) = 1
is_refused (Admitted a r) = 0

-- ---- laws: any kind of answer

-- of two answers that are no refusals, neither is one, whichever is given
spoken : {W : Type 0} (tag : W → ℕ) (b : Bool) (u v : W) → 1 ≤ tag u → 1 ≤ tag v → 1 ≤ tag (cond b u v)
spoken tag true u v p q = p
spoken tag false u v p q = q

-- what comes after a test, in other words
later_words : {E F G H K : Type 0} → E ↔ (F ⊎ (G × H)) → H ↔ K → E ↔ (F ⊎ (G × K))
later_words a b = (
  λ e. ⊎_elim (λ p. inl p) (λ p. inr (p.0, b.0 p.1)) (a.0 e),
  λ e. a.1 (⊎_elim (λ p. inl p) (λ p. inr (p.0, b.1 p.1)) e),
)

module _ {W : Type 0} (refused : ℕ → ℕ → W) (same : (n i m j : ℕ) → refused n i ≡ refused m j → (n ≡ m) × (i ≡ j)) (n i : ℕ) where
  -- by a test that comes first, with the number k and row 0
  by_test : (k : ℕ) (b : Bool) (v : W) → (cond b v (refused k 0) ≡ refused n i) ↔ (((b ≡ false) × (n ≡ k) × (i ≡ 0)) ⊎ ((b ≡ true) × (v ≡ refused n i)))
  by_test k true v = (λ e. inr (refl, e), λ h. ⊎_elim (λ p. not_both refl p.0) (λ p. p.1) h)
  by_test k false v = (
    λ e. let s = same k 0 n i e in inl (refl, sym s.0, sym s.1),
    λ h. ⊎_elim (λ p. rw (p.1, p.2) refl) (λ p. not_both p.0 refl) h,
  )

  -- by the admission of the table
  by_table : (a : Admission) (v : W) → (when_admitted refused a v ≡ refused n i) ↔ ((a ≡ Refused n i) ⊎ (Admits a × (v ≡ refused n i)))
  unfolding when_admitted
  by_table (Refused m j) v = (
    λ e. let s = same m j n i e in inl (rw (s.0, s.1) refl),
    λ h. ⊎_elim
        (λ p. let a : m ≡ n = ap number p in let b : j ≡ i = ap row p in rw (a, b) refl)
        (λ p. absurd (let z : ◌≡◌ {A = ℕ} 1 0 = ap is_refused p.0.2 in omega arith))
        h,
  )
  by_table (Admitted x y) v = (
    λ e. inr ((x, y, refl), e),
    λ h. ⊎_elim (λ p. absurd (let z : ◌≡◌ {A = ℕ} 0 1 = ap is_refused p in omega arith)) (λ p. p.1) h,
  )

  -- and by that alone, where what is said of an admitted table is no refusal
  by_table_alone : (a : Admission) (v : W) → (v ≡ refused n i → ⊥) → (when_admitted refused a v ≡ refused n i) ↔ (a ≡ Refused n i)
  by_table_alone a v never = (λ e. ⊎_elim (λ p. p) (λ p. absurd (never p.1)) ((by_table a v).0 e), λ e. (by_table a v).1 (inl e))

-- an admitted table has the agents and rows that stand in its header
counts_is : (s : List ℕ) → Admits (admission true s) → admission true s ≡ Admitted (agents_at s) (rows_at s)
counts_is s p = sound_admitted true s (admitted_sound true s p.2)

module _ {W : Type 0} (refused : ℕ → ℕ → W) (same : (n i m j : ℕ) → refused n i ≡ refused m j → (n ≡ m) × (i ≡ j)) (n i : ℕ) (s : List ℕ) (m k : ℕ) where
  -- by the admission of the table or by 12, where what is said of two moments is no refusal
  by_moments : (v : W) → (v ≡ refused n i → ⊥) → (when_admitted refused (admission true s) (cond (two_moments (table_of s) m k) v (refused 12 0)) ≡ refused n i)
      ↔ ((admission true s ≡ Refused n i) ⊎ ((admission true s ≡ Admitted (agents_at s) (rows_at s)) × (two_moments (table_of s) m k ≡ false) × (n ≡ 12) × (i ≡ 0)))
  by_moments v never = (
    λ e. ⊎_elim (λ p. inl p) (λ p. inr (twelve p.0 (tested.0 p.1))) (table.0 e),
    λ e. table.1 (⊎_elim (λ p. inl p) (λ p. inr ((agents_at s, rows_at s, p.0), tested.1 (inl (p.1, p.2, p.3)))) e),
  )
    where
      two : Bool
      two = two_moments (table_of s) m k

      tested : (cond two v (refused 12 0) ≡ refused n i) ↔ (((two ≡ false) × (n ≡ 12) × (i ≡ 0)) ⊎ ((two ≡ true) × (v ≡ refused n i)))
      tested = by_test refused same n i 12 two v

      table : (when_admitted refused (admission true s) (cond two v (refused 12 0)) ≡ refused n i)
          ↔ ((admission true s ≡ Refused n i) ⊎ (Admits (admission true s) × (cond two v (refused 12 0) ≡ refused n i)))
      table = by_table refused same n i (admission true s) (cond two v (refused 12 0))

      twelve : Admits (admission true s) → (((two ≡ false) × (n ≡ 12) × (i ≡ 0)) ⊎ ((two ≡ true) × (v ≡ refused n i)))
          → (admission true s ≡ Admitted (agents_at s) (rows_at s)) × (two ≡ false) × (n ≡ 12) × (i ≡ 0)
      twelve a (inl p) = (counts_is s a, p.0, p.1, p.2)
      twelve a (inr p) = absurd (never p.1)

-- ---- a check

same_verdict : (n i m j : ℕ) → Verdict.refused n i ≡ Verdict.refused m j → (n ≡ m) × (i ≡ j)
same_verdict n i m j e = (ap Cases.first e, ap Cases.second e)

no_verdict : (t : Table) (source : ℕ → ℕ) (n i : ℕ) → verdict t source ≡ Verdict.refused n i → ⊥
unfolding verdict cyclic_or overwritten_or race_or
no_verdict t source n i e =
    let z : Cases.tag (verdict t source) ≡ 0 = ap Cases.tag e in
    let p : 1 ≤ Cases.tag (verdict t source) =
    spoken Cases.tag (ltb (cycle_row t source) t.rows) _ _ (omega arith)
    (spoken Cases.tag (ltb (over_reader t source) t.rows) _ _ (omega arith) (spoken Cases.tag (ltb (race_row t) t.rows) _ _ (omega arith) (omega arith)))
    in
    omega arith

pub check_refused : (chains : Bool) (s : List ℕ) (work buffer n i : ℕ) → (check chains s work buffer ≡ Verdict.refused n i)
    ↔ (((buffers_fit CYCLE work buffer ≡ false) × (n ≡ 11) × (i ≡ 0)) ⊎ ((buffers_fit CYCLE work buffer ≡ true) × (admission false s ≡ Refused n i)))
unfolding check
check_refused chains s work buffer n i =
    later_words (by_test Verdict.refused same_verdict n i 11 (buffers_fit CYCLE work buffer) _)
    (by_table_alone Verdict.refused same_verdict n i (admission false s) _ (no_verdict (table_under chains s) (sources_of s) n i))

-- ---- a fill

same_outcome : (n i m j : ℕ) → Outcome.refused n i ≡ Outcome.refused m j → (n ≡ m) × (i ≡ j)
same_outcome n i m j e = (ap Outcomes.first e, ap Outcomes.second e)

no_outcome : (t : Table) (source : ℕ → ℕ) (n i : ℕ) → outcome t source ≡ Outcome.refused n i → ⊥
unfolding outcome race_or filled_or
no_outcome t source n i e =
    let z : Outcomes.tag (outcome t source) ≡ 0 = ap Outcomes.tag e in
    let p : 1 ≤ Outcomes.tag (outcome t source) =
    spoken Outcomes.tag (ltb (race_row t) t.rows) _ _ (omega arith)
    (spoken Outcomes.tag (sources_fit t (chosen t source) and consistent t (chosen t source)) _ _ (omega arith) (omega arith))
    in
    omega arith

pub fill_refused : (chains : Bool) (s : List ℕ) (work buffer n i : ℕ) → (fill chains s work buffer ≡ Outcome.refused n i)
    ↔ (((buffers_fit SOURCES work buffer ≡ false) × (n ≡ 11) × (i ≡ 0)) ⊎ ((buffers_fit SOURCES work buffer ≡ true) × (admission true s ≡ Refused n i)))
unfolding fill
fill_refused chains s work buffer n i =
    later_words (by_test Outcome.refused same_outcome n i 11 (buffers_fit SOURCES work buffer) _)
    (by_table_alone Outcome.refused same_outcome n i (admission true s) _ (no_outcome (table_under chains s) (sources_of s) n i))

-- ---- a derivation that is read

abbrev judged_tag : Judged → ℕ
judged_tag (Judged.refused n i) = 0
judged_tag Judged.accepted = 1
judged_tag Judged.not_accepted = 2

abbrev judged_number : Judged → ℕ
judged_number (Judged.refused n i) = n
judged_number Judged.accepted = 0
judged_number Judged.not_accepted = 0

abbrev judged_row : Judged → ℕ
judged_row (Judged.refused n i) = i
judged_row Judged.accepted = 0
judged_row Judged.not_accepted = 0

same_judged : (n i m j : ℕ) → Judged.refused n i ≡ Judged.refused m j → (n ≡ m) × (i ≡ j)
same_judged n i m j e = (ap judged_number e, ap judged_row e)

no_judged : (b : Bool) (n i : ℕ) → cond b Judged.accepted Judged.not_accepted ≡ Judged.refused n i → ⊥
no_judged true n i e = let z : ◌≡◌ {A = ℕ} 1 0 = ap judged_tag e in omega arith
no_judged false n i e = let z : ◌≡◌ {A = ℕ} 2 0 = ap judged_tag e in omega arith

pub judge_refused : (s : List ℕ) (m k : ℕ) (r : Reason) (l : List ℕ) (n i : ℕ) → (judge s m k r l ≡ Judged.refused n i)
    ↔ ((admission true s ≡ Refused n i) ⊎ ((admission true s ≡ Admitted (agents_at s) (rows_at s)) × (two_moments (table_of s) m k ≡ false) × (n ≡ 12) × (i ≡ 0)))
unfolding judge judged
judge_refused s m k r l n i =
    by_moments Judged.refused same_judged n i s m k _ (no_judged (accepts (table_of s) m k r l) n i)

-- ---- a derivation that is asked for

abbrev derived_tag : Derived → ℕ
derived_tag (Derived.refused n i) = 0
derived_tag Derived.word = 1
derived_tag (Derived.chained c l) = 2
derived_tag Derived.not_before = 3

abbrev derived_number : Derived → ℕ
derived_number (Derived.refused n i) = n
derived_number Derived.word = 0
derived_number (Derived.chained c l) = 0
derived_number Derived.not_before = 0

abbrev derived_row : Derived → ℕ
derived_row (Derived.refused n i) = i
derived_row Derived.word = 0
derived_row (Derived.chained c l) = 0
derived_row Derived.not_before = 0

same_derived : (n i m j : ℕ) → Derived.refused n i ≡ Derived.refused m j → (n ≡ m) × (i ≡ j)
same_derived n i m j e = (ap derived_number e, ap derived_row e)

no_derived : (t : Table) (m k n i : ℕ) → ours t m k ≡ Derived.refused n i → ⊥
unfolding ours chain_or
no_derived t m k n i e =
    let z : derived_tag (ours t m k) ≡ 0 = ap derived_tag e in
    let p : 1 ≤ derived_tag (ours t m k) =
    spoken derived_tag (program_order t m k) _ _ (omega arith)
    (spoken derived_tag (ltb (least CLASS_SETS (has_chain_by t m k)) CLASS_SETS) _ _ (omega arith) (omega arith))
    in
    omega arith

pub derive_refused : (s : List ℕ) (m k work buffer n i : ℕ) → (derive s m k work buffer ≡ Derived.refused n i)
    ↔ (((buffers_fit STEPS work buffer ≡ false) × (n ≡ 11) × (i ≡ 0)) ⊎ ((buffers_fit STEPS work buffer ≡ true)
    × ((admission true s ≡ Refused n i) ⊎ ((admission true s ≡ Admitted (agents_at s) (rows_at s)) × (two_moments (table_of s) m k ≡ false) × (n ≡ 12) × (i ≡ 0)))))
unfolding derive derived_of
derive_refused s m k work buffer n i =
    later_words (by_test Derived.refused same_derived n i 11 (buffers_fit STEPS work buffer) _)
    (by_moments Derived.refused same_derived n i s m k _ (no_derived (table_of s) m k n i))
