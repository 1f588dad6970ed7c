-- What a caller gets: each case of an answer is given exactly for the verdict, outcome or judgement of its name, with its numbers; and what is
-- left in the lent buffers. That a report refuses, or shows a cycle or an overwritten read, exactly as a check does stands in Report.antt
-- (`says_refused`, `says_cycle`, `says_overwritten`). Assumes nothing.
use Rattle.std.specs.Prelude.{◌≡◌, refl, Bool, true, false, List, ◌++◌, ◌⊎◌, ◌↔◌, ℕ, length, drop, replicate}
use Rattle.std.proofs.Common.{sym, ap, ◌∙◌, inl, inr, arith, eq-eqb, ne_eqb}
use Rattle.std.proofs.Math.Decide.{ℕ_discrete}
use Rattle.finite.specs.Lists.{tabulate}
use Rattle.model.specs.Limits.{WORK, CYCLE}
use Rattle.std.specs.declared.result.Result.{Result}
use Rattle.std.specs.declared.result.Result.TheVariants.{Ok, Err}
use Rattle.model.specs.declared.Refusal.{Refusal}
use Rattle.model.specs.declared.CheckAnswer.{CheckAnswer}
use Rattle.model.specs.declared.CheckAnswer.TheVariants as check
use Rattle.model.specs.declared.FillAnswer.{FillAnswer}
use Rattle.model.specs.declared.FillAnswer.TheVariants as fill
use Rattle.model.specs.declared.DeriveAnswer.{DeriveAnswer}
use Rattle.model.specs.declared.DeriveAnswer.TheVariants as derive
use Rattle.model.specs.declared.Report.{Report}
use Rattle.model.specs.declared.ReportAnswer.{ReportAnswer}
use Rattle.model.specs.declared.ReportAnswer.TheVariants as given
use Rattle.model.specs.Report.{Told, told_answer}
use Rattle.model.specs.Report as report
use Rattle.model.specs.Table.{Table}
use Rattle.model.specs.Refusal.{refusal}
use Rattle.model.specs.Check.{Verdict, check_answer, wiped, cycle_number, cycle_after, work_after}
use Rattle.model.specs.Check as verdict
use Rattle.model.specs.Fill.{Outcome, fill_answer, sources_after}
use Rattle.model.specs.Fill as outcome
use Rattle.model.specs.Reason.{Derived, Judged, derive_answer, accept_answer, chain_after}
use Rattle.model.specs.Reason as reason
use Rattle.model.specs.Report.{conflicting, racing, quotient, share_of, report_of, with_share, report_on, report_answer}
use Rattle.model_promises.specs.Report.{tag, inside}

-- ---- a check

abbrev check_tag : Result CheckAnswer Refusal → ℕ
check_tag (Err r) = 0
check_tag (Ok (check.Cycle k)) = 1
check_tag (Ok (check.Overwritten o)) = 2
check_tag (Ok (check.Race r)) = 3
check_tag (Ok check.RaceFree) = 4

abbrev check_first : Result CheckAnswer Refusal → ℕ
check_first (Err r) = r.number
check_first (Ok (check.Cycle k)) = k
check_first (Ok (check.Overwritten o)) = o.reader
check_first (Ok (check.Race r)) = r.first
check_first (Ok check.RaceFree) = 0

abbrev check_second : Result CheckAnswer Refusal → ℕ
check_second (Err r) = r.row
check_second (Ok (check.Cycle k)) = 0
check_second (Ok (check.Overwritten o)) = o.writer
check_second (Ok (check.Race r)) = r.second
check_second (Ok check.RaceFree) = 0

abbrev check_third : Result CheckAnswer Refusal → ℕ
check_third (Err r) = 0
check_third (Ok (check.Cycle k)) = 0
check_third (Ok (check.Overwritten o)) = o.byte
check_third (Ok (check.Race r)) = r.byte
check_third (Ok check.RaceFree) = 0

pub checks_refused : (d : Verdict) (n i : ℕ) → (check_answer d ≡ Err (refusal n i)) ↔ (d ≡ verdict.refused n i)
unfolding check_answer
checks_refused d n i = (forth d, λ e. rw e refl)
  where
    forth : (d : Verdict) → check_answer d ≡ Err (refusal n i) → (d ≡ verdict.refused n i)
    forth (verdict.refused n' i') e = rw (ap check_first e, ap check_second e) refl
    forth (verdict.cyclic rows' edges') e = absurd (let z : ◌≡◌ {A = ℕ} 1 0 = ap check_tag e in omega arith)
    forth (verdict.overwritten y' z' b') e = absurd (let z : ◌≡◌ {A = ℕ} 2 0 = ap check_tag e in omega arith)
    forth (verdict.race x' y' b') e = absurd (let z : ◌≡◌ {A = ℕ} 3 0 = ap check_tag e in omega arith)
    forth verdict.race_free e = absurd (let z : ◌≡◌ {A = ℕ} 4 0 = ap check_tag e in omega arith)

pub checks_cycle : (d : Verdict) (k : ℕ)
    → (check_answer d ≡ Ok (check.Cycle k)) ↔ ((rows : List ℕ) × (edges : List ℕ) × (d ≡ verdict.cyclic rows edges) × (length rows ≡ k))
unfolding check_answer
checks_cycle d k = (forth d, λ e. let h = e.3 in rw (e.2, h) refl)
  where
    forth : (d : Verdict) → check_answer d ≡ Ok (check.Cycle k) → ((rows : List ℕ) × (edges : List ℕ) × (d ≡ verdict.cyclic rows edges) × (length rows ≡ k))
    forth (verdict.refused n' i') e = absurd (let z : ◌≡◌ {A = ℕ} 0 1 = ap check_tag e in omega arith)
    forth (verdict.cyclic rows' edges') e = (rows', edges', refl, ap check_first e)
    forth (verdict.overwritten y' z' b') e = absurd (let z : ◌≡◌ {A = ℕ} 2 1 = ap check_tag e in omega arith)
    forth (verdict.race x' y' b') e = absurd (let z : ◌≡◌ {A = ℕ} 3 1 = ap check_tag e in omega arith)
    forth verdict.race_free e = absurd (let z : ◌≡◌ {A = ℕ} 4 1 = ap check_tag e in omega arith)

pub checks_overwritten : (d : Verdict) (y z b : ℕ) → (check_answer d ≡ Ok (check.Overwritten (record { reader = y; writer = z; byte = b }))) ↔ (d ≡ verdict.overwritten y z b)
unfolding check_answer
checks_overwritten d y z b = (forth d, λ e. rw e refl)
  where
    forth : (d : Verdict) → check_answer d ≡ Ok (check.Overwritten (record { reader = y; writer = z; byte = b })) → (d ≡ verdict.overwritten y z b)
    forth (verdict.refused n' i') e = absurd (let z : ◌≡◌ {A = ℕ} 0 2 = ap check_tag e in omega arith)
    forth (verdict.cyclic rows' edges') e = absurd (let z : ◌≡◌ {A = ℕ} 1 2 = ap check_tag e in omega arith)
    forth (verdict.overwritten y' z' b') e = rw (ap check_first e, ap check_second e, ap check_third e) refl
    forth (verdict.race x' y' b') e = absurd (let z : ◌≡◌ {A = ℕ} 3 2 = ap check_tag e in omega arith)
    forth verdict.race_free e = absurd (let z : ◌≡◌ {A = ℕ} 4 2 = ap check_tag e in omega arith)

pub checks_race : (d : Verdict) (x y b : ℕ) → (check_answer d ≡ Ok (check.Race (record { first = x; second = y; byte = b }))) ↔ (d ≡ verdict.race x y b)
unfolding check_answer
checks_race d x y b = (forth d, λ e. rw e refl)
  where
    forth : (d : Verdict) → check_answer d ≡ Ok (check.Race (record { first = x; second = y; byte = b })) → (d ≡ verdict.race x y b)
    forth (verdict.refused n' i') e = absurd (let z : ◌≡◌ {A = ℕ} 0 3 = ap check_tag e in omega arith)
    forth (verdict.cyclic rows' edges') e = absurd (let z : ◌≡◌ {A = ℕ} 1 3 = ap check_tag e in omega arith)
    forth (verdict.overwritten y' z' b') e = absurd (let z : ◌≡◌ {A = ℕ} 2 3 = ap check_tag e in omega arith)
    forth (verdict.race x' y' b') e = rw (ap check_first e, ap check_second e, ap check_third e) refl
    forth verdict.race_free e = absurd (let z : ◌≡◌ {A = ℕ} 4 3 = ap check_tag e in omega arith)

pub checks_free : (d : Verdict) → (check_answer d ≡ Ok check.RaceFree) ↔ (d ≡ verdict.race_free)
unfolding check_answer
checks_free d = (forth d, λ e. rw e refl)
  where
    forth : (d : Verdict) → check_answer d ≡ Ok check.RaceFree → (d ≡ verdict.race_free)
    forth (verdict.refused n' i') e = absurd (let z : ◌≡◌ {A = ℕ} 0 4 = ap check_tag e in omega arith)
    forth (verdict.cyclic rows' edges') e = absurd (let z : ◌≡◌ {A = ℕ} 1 4 = ap check_tag e in omega arith)
    forth (verdict.overwritten y' z' b') e = absurd (let z : ◌≡◌ {A = ℕ} 2 4 = ap check_tag e in omega arith)
    forth (verdict.race x' y' b') e = absurd (let z : ◌≡◌ {A = ℕ} 3 4 = ap check_tag e in omega arith)
    forth verdict.race_free e = refl

-- ---- a fill

abbrev fill_tag : Result FillAnswer Refusal → ℕ
fill_tag (Err r) = 0
fill_tag (Ok (fill.Race r)) = 1
fill_tag (Ok fill.None) = 2
fill_tag (Ok fill.Filled) = 3

abbrev fill_first : Result FillAnswer Refusal → ℕ
fill_first (Err r) = r.number
fill_first (Ok (fill.Race r)) = r.first
fill_first (Ok fill.None) = 0
fill_first (Ok fill.Filled) = 0

abbrev fill_second : Result FillAnswer Refusal → ℕ
fill_second (Err r) = r.row
fill_second (Ok (fill.Race r)) = r.second
fill_second (Ok fill.None) = 0
fill_second (Ok fill.Filled) = 0

abbrev fill_third : Result FillAnswer Refusal → ℕ
fill_third (Err r) = 0
fill_third (Ok (fill.Race r)) = r.byte
fill_third (Ok fill.None) = 0
fill_third (Ok fill.Filled) = 0

pub fills_refused : (d : Outcome) (n i : ℕ) → (fill_answer d ≡ Err (refusal n i)) ↔ (d ≡ outcome.refused n i)
unfolding fill_answer
fills_refused d n i = (forth d, λ e. rw e refl)
  where
    forth : (d : Outcome) → fill_answer d ≡ Err (refusal n i) → (d ≡ outcome.refused n i)
    forth (outcome.refused n' i') e = rw (ap fill_first e, ap fill_second e) refl
    forth (outcome.race x' y' b') e = absurd (let z : ◌≡◌ {A = ℕ} 1 0 = ap fill_tag e in omega arith)
    forth outcome.none e = absurd (let z : ◌≡◌ {A = ℕ} 2 0 = ap fill_tag e in omega arith)
    forth (outcome.filled l') e = absurd (let z : ◌≡◌ {A = ℕ} 3 0 = ap fill_tag e in omega arith)

pub fills_race : (d : Outcome) (x y b : ℕ) → (fill_answer d ≡ Ok (fill.Race (record { first = x; second = y; byte = b }))) ↔ (d ≡ outcome.race x y b)
unfolding fill_answer
fills_race d x y b = (forth d, λ e. rw e refl)
  where
    forth : (d : Outcome) → fill_answer d ≡ Ok (fill.Race (record { first = x; second = y; byte = b })) → (d ≡ outcome.race x y b)
    forth (outcome.refused n' i') e = absurd (let z : ◌≡◌ {A = ℕ} 0 1 = ap fill_tag e in omega arith)
    forth (outcome.race x' y' b') e = rw (ap fill_first e, ap fill_second e, ap fill_third e) refl
    forth outcome.none e = absurd (let z : ◌≡◌ {A = ℕ} 2 1 = ap fill_tag e in omega arith)
    forth (outcome.filled l') e = absurd (let z : ◌≡◌ {A = ℕ} 3 1 = ap fill_tag e in omega arith)

pub fills_none : (d : Outcome) → (fill_answer d ≡ Ok fill.None) ↔ (d ≡ outcome.none)
unfolding fill_answer
fills_none d = (forth d, λ e. rw e refl)
  where
    forth : (d : Outcome) → fill_answer d ≡ Ok fill.None → (d ≡ outcome.none)
    forth (outcome.refused n' i') e = absurd (let z : ◌≡◌ {A = ℕ} 0 2 = ap fill_tag e in omega arith)
    forth (outcome.race x' y' b') e = absurd (let z : ◌≡◌ {A = ℕ} 1 2 = ap fill_tag e in omega arith)
    forth outcome.none e = refl
    forth (outcome.filled l') e = absurd (let z : ◌≡◌ {A = ℕ} 3 2 = ap fill_tag e in omega arith)

pub fills_filled : (d : Outcome) → (fill_answer d ≡ Ok fill.Filled) ↔ ((l : List ℕ) × (d ≡ outcome.filled l))
unfolding fill_answer
fills_filled d = (forth d, λ e. rw e.1 refl)
  where
    forth : (d : Outcome) → fill_answer d ≡ Ok fill.Filled → ((l : List ℕ) × (d ≡ outcome.filled l))
    forth (outcome.refused n' i') e = absurd (let z : ◌≡◌ {A = ℕ} 0 3 = ap fill_tag e in omega arith)
    forth (outcome.race x' y' b') e = absurd (let z : ◌≡◌ {A = ℕ} 1 3 = ap fill_tag e in omega arith)
    forth outcome.none e = absurd (let z : ◌≡◌ {A = ℕ} 2 3 = ap fill_tag e in omega arith)
    forth (outcome.filled l') e = (l', refl)

-- ---- a derivation that is asked for

abbrev derive_tag : Result DeriveAnswer Refusal → ℕ
derive_tag (Err r) = 0
derive_tag (Ok derive.ProgramOrder) = 1
derive_tag (Ok (derive.Chain s k)) = 2
derive_tag (Ok derive.NotBefore) = 3

abbrev derive_first : Result DeriveAnswer Refusal → ℕ
derive_first (Err r) = r.number
derive_first (Ok derive.ProgramOrder) = 0
derive_first (Ok (derive.Chain s k)) = s
derive_first (Ok derive.NotBefore) = 0

abbrev derive_second : Result DeriveAnswer Refusal → ℕ
derive_second (Err r) = r.row
derive_second (Ok derive.ProgramOrder) = 0
derive_second (Ok (derive.Chain s k)) = k
derive_second (Ok derive.NotBefore) = 0

pub derives_refused : (d : Derived) (n i : ℕ) → (derive_answer d ≡ Err (refusal n i)) ↔ (d ≡ reason.refused n i)
unfolding derive_answer
derives_refused d n i = (forth d, λ e. rw e refl)
  where
    forth : (d : Derived) → derive_answer d ≡ Err (refusal n i) → (d ≡ reason.refused n i)
    forth (reason.refused n' i') e = rw (ap derive_first e, ap derive_second e) refl
    forth reason.word e = absurd (let z : ◌≡◌ {A = ℕ} 1 0 = ap derive_tag e in omega arith)
    forth (reason.chained s' l') e = absurd (let z : ◌≡◌ {A = ℕ} 2 0 = ap derive_tag e in omega arith)
    forth reason.not_before e = absurd (let z : ◌≡◌ {A = ℕ} 3 0 = ap derive_tag e in omega arith)

pub derives_program_order : (d : Derived) → (derive_answer d ≡ Ok derive.ProgramOrder) ↔ (d ≡ reason.word)
unfolding derive_answer
derives_program_order d = (forth d, λ e. rw e refl)
  where
    forth : (d : Derived) → derive_answer d ≡ Ok derive.ProgramOrder → (d ≡ reason.word)
    forth (reason.refused n' i') e = absurd (let z : ◌≡◌ {A = ℕ} 0 1 = ap derive_tag e in omega arith)
    forth reason.word e = refl
    forth (reason.chained s' l') e = absurd (let z : ◌≡◌ {A = ℕ} 2 1 = ap derive_tag e in omega arith)
    forth reason.not_before e = absurd (let z : ◌≡◌ {A = ℕ} 3 1 = ap derive_tag e in omega arith)

pub derives_chain : (d : Derived) (s k : ℕ) → (derive_answer d ≡ Ok (derive.Chain s k)) ↔ ((l : List ℕ) × (d ≡ reason.chained s l) × (length l ≡ k))
unfolding derive_answer
derives_chain d s k = (forth d, λ e. let h = e.2 in rw (e.1, h) refl)
  where
    forth : (d : Derived) → derive_answer d ≡ Ok (derive.Chain s k) → ((l : List ℕ) × (d ≡ reason.chained s l) × (length l ≡ k))
    forth (reason.refused n' i') e = absurd (let z : ◌≡◌ {A = ℕ} 0 2 = ap derive_tag e in omega arith)
    forth reason.word e = absurd (let z : ◌≡◌ {A = ℕ} 1 2 = ap derive_tag e in omega arith)
    forth (reason.chained s' l') e = (l', rw (ap derive_first e) refl, ap derive_second e)
    forth reason.not_before e = absurd (let z : ◌≡◌ {A = ℕ} 3 2 = ap derive_tag e in omega arith)

pub derives_not_before : (d : Derived) → (derive_answer d ≡ Ok derive.NotBefore) ↔ (d ≡ reason.not_before)
unfolding derive_answer
derives_not_before d = (forth d, λ e. rw e refl)
  where
    forth : (d : Derived) → derive_answer d ≡ Ok derive.NotBefore → (d ≡ reason.not_before)
    forth (reason.refused n' i') e = absurd (let z : ◌≡◌ {A = ℕ} 0 3 = ap derive_tag e in omega arith)
    forth reason.word e = absurd (let z : ◌≡◌ {A = ℕ} 1 3 = ap derive_tag e in omega arith)
    forth (reason.chained s' l') e = absurd (let z : ◌≡◌ {A = ℕ} 2 3 = ap derive_tag e in omega arith)
    forth reason.not_before e = refl

-- ---- a derivation that is read

abbrev accept_tag : Result Bool Refusal → ℕ
accept_tag (Err r) = 0
accept_tag (Ok true) = 1
accept_tag (Ok false) = 2

abbrev accept_first : Result Bool Refusal → ℕ
accept_first (Err r) = r.number
accept_first (Ok true) = 0
accept_first (Ok false) = 0

abbrev accept_second : Result Bool Refusal → ℕ
accept_second (Err r) = r.row
accept_second (Ok true) = 0
accept_second (Ok false) = 0

pub reads_refused : (d : Judged) (n i : ℕ) → (accept_answer d ≡ Err (refusal n i)) ↔ (d ≡ reason.refused n i)
unfolding accept_answer
reads_refused d n i = (forth d, λ e. rw e refl)
  where
    forth : (d : Judged) → accept_answer d ≡ Err (refusal n i) → (d ≡ reason.refused n i)
    forth (reason.refused n' i') e = rw (ap accept_first e, ap accept_second e) refl
    forth reason.accepted e = absurd (let z : ◌≡◌ {A = ℕ} 1 0 = ap accept_tag e in omega arith)
    forth reason.not_accepted e = absurd (let z : ◌≡◌ {A = ℕ} 2 0 = ap accept_tag e in omega arith)

pub reads_accepted : (d : Judged) → (accept_answer d ≡ Ok true) ↔ (d ≡ reason.accepted)
unfolding accept_answer
reads_accepted d = (forth d, λ e. rw e refl)
  where
    forth : (d : Judged) → accept_answer d ≡ Ok true → (d ≡ reason.accepted)
    forth (reason.refused n' i') e = absurd (let z : ◌≡◌ {A = ℕ} 0 1 = ap accept_tag e in omega arith)
    forth reason.accepted e = refl
    forth reason.not_accepted e = absurd (let z : ◌≡◌ {A = ℕ} 2 1 = ap accept_tag e in omega arith)

pub reads_not_accepted : (d : Judged) → (accept_answer d ≡ Ok false) ↔ (d ≡ reason.not_accepted)
unfolding accept_answer
reads_not_accepted d = (forth d, λ e. rw e refl)
  where
    forth : (d : Judged) → accept_answer d ≡ Ok false → (d ≡ reason.not_accepted)
    forth (reason.refused n' i') e = absurd (let z : ◌≡◌ {A = ℕ} 0 2 = ap accept_tag e in omega arith)
    forth reason.accepted e = absurd (let z : ◌≡◌ {A = ℕ} 1 2 = ap accept_tag e in omega arith)
    forth reason.not_accepted e = refl

-- ---- a report

-- a verdict that finds the table consistent: some race, or none
abbrev pub Sound : Verdict → Type 0
Sound d = ((x : ℕ) × (y : ℕ) × (b : ℕ) × (d ≡ verdict.race x y b)) ⊎ (d ≡ verdict.race_free)

-- what is report_on, by whether some pair conflicts
counted_none : (t : Table) → conflicting t ≡ 0 → report_on t ≡ report.no_pairs
unfolding report_on with_share share_of
counted_none t e = rw (eq-eqb (conflicting t) 0 e) refl

counted_some : (t : Table) → (conflicting t ≡ 0 → ⊥) → report_on t ≡ report.reported (report_of t (quotient (racing t) (conflicting t)))
unfolding report_on with_share share_of
counted_some t e = rw (ne_eqb (conflicting t) 0 e) refl

none_counted : (t : Table) → report_on t ≡ report.no_pairs → conflicting t ≡ 0
none_counted t e = go (ℕ_discrete (conflicting t) 0)
  where
    go : Dec (conflicting t ≡ 0) → conflicting t ≡ 0
    go (yes h) = h
    go (no h) = absurd (let z : ◌≡◌ {A = ℕ} 4 3 = ap tag (sym (counted_some t h) ∙ e) in omega arith)

some_counted : (t : Table) (r : Report) → report_on t ≡ report.reported r → (conflicting t ≡ 0 → ⊥) × (r ≡ report_of t (quotient (racing t) (conflicting t)))
some_counted t r e =
    let some : conflicting t ≡ 0 → ⊥ = λ h. absurd (let z : ◌≡◌ {A = ℕ} 3 4 = ap tag (sym (counted_none t h) ∙ e) in omega arith) in
    (some, ap (inside r) (sym e ∙ counted_some t some))

-- what is told, from the answer
abbrev told_in : Result ReportAnswer Refusal → Told
told_in (Err r) = report.refused r.number r.row
told_in (Ok (given.Cycle k)) = report.cyclic k
told_in (Ok (given.Overwritten o)) = report.overwritten o.reader o.writer o.byte
told_in (Ok given.NoPairs) = report.no_pairs
told_in (Ok (given.Report r)) = report.reported r

told_back : (a : Told) → told_in (told_answer a) ≡ a
unfolding told_answer
told_back (report.refused n i) = refl
told_back (report.cyclic k) = refl
told_back (report.overwritten y z b) = refl
told_back report.no_pairs = refl
told_back (report.reported r) = refl

-- so an answer is given exactly for what it is of
told_exactly : (a b : Told) → (told_answer a ≡ told_answer b) ↔ (a ≡ b)
told_exactly a b = (λ e. sym (told_back a) ∙ ap told_in e ∙ told_back b, λ e. ap told_answer e)

pub tells_refused : (a : Told) (n i : ℕ) → (told_answer a ≡ Err (refusal n i)) ↔ (a ≡ report.refused n i)
unfolding told_answer
tells_refused a n i = told_exactly a (report.refused n i)

pub tells_cycle : (a : Told) (k : ℕ) → (told_answer a ≡ Ok (given.Cycle k)) ↔ (a ≡ report.cyclic k)
unfolding told_answer
tells_cycle a k = told_exactly a (report.cyclic k)

pub tells_overwritten : (a : Told) (y z b : ℕ)
    → (told_answer a ≡ Ok (given.Overwritten (record { reader = y; writer = z; byte = b }))) ↔ (a ≡ report.overwritten y z b)
unfolding told_answer
tells_overwritten a y z b = told_exactly a (report.overwritten y z b)

pub tells_none : (a : Told) → (told_answer a ≡ Ok given.NoPairs) ↔ (a ≡ report.no_pairs)
unfolding told_answer
tells_none a = told_exactly a report.no_pairs

pub tells_report : (a : Told) (r : Report) → (told_answer a ≡ Ok (given.Report r)) ↔ (a ≡ report.reported r)
unfolding told_answer
tells_report a r = told_exactly a (report.reported r)

-- no share exactly where the table is consistent and no pair conflicts
pub reports_none : (d : Verdict) (t : Table) → (report_answer (check_answer d) t ≡ report.no_pairs) ↔ (Sound d × (conflicting t ≡ 0))
unfolding report_answer check_answer
reports_none d t = (forth d, λ e. back e.0 e.1)
  where
    forth : (d : Verdict) → report_answer (check_answer d) t ≡ report.no_pairs → Sound d × (conflicting t ≡ 0)
    forth (verdict.refused n i) e = absurd (let z : ◌≡◌ {A = ℕ} 0 3 = ap tag e in omega arith)
    forth (verdict.cyclic rows edges) e = absurd (let z : ◌≡◌ {A = ℕ} 1 3 = ap tag e in omega arith)
    forth (verdict.overwritten y z b) e = absurd (let z : ◌≡◌ {A = ℕ} 2 3 = ap tag e in omega arith)
    forth (verdict.race x y b) e = (inl (x, y, b, refl), none_counted t e)
    forth verdict.race_free e = (inr refl, none_counted t e)

    back : Sound d → conflicting t ≡ 0 → report_answer (check_answer d) t ≡ report.no_pairs
    back (inl r) h = rw r.3 (counted_none t h)
    back (inr r) h = rw r (counted_none t h)

-- a report exactly where it is consistent and some pair conflicts: the four counts, and the quotient of two of them beside them
pub reports_counts : (d : Verdict) (t : Table) (r : Report)
    → (report_answer (check_answer d) t ≡ report.reported r) ↔ (Sound d × (conflicting t ≡ 0 → ⊥) × (r ≡ report_of t (quotient (racing t) (conflicting t))))
unfolding report_answer check_answer
reports_counts d t r = (forth d, λ e. back e.0 e.1 e.2)
  where
    forth : (d : Verdict) → report_answer (check_answer d) t ≡ report.reported r
        → Sound d × (conflicting t ≡ 0 → ⊥) × (r ≡ report_of t (quotient (racing t) (conflicting t)))
    forth (verdict.refused n i) e = absurd (let z : ◌≡◌ {A = ℕ} 0 4 = ap tag e in omega arith)
    forth (verdict.cyclic rows edges) e = absurd (let z : ◌≡◌ {A = ℕ} 1 4 = ap tag e in omega arith)
    forth (verdict.overwritten y z b) e = absurd (let z : ◌≡◌ {A = ℕ} 2 4 = ap tag e in omega arith)
    forth (verdict.race x y b) e = let s = some_counted t r e in (inl (x, y, b, refl), s.0, s.1)
    forth verdict.race_free e = let s = some_counted t r e in (inr refl, s.0, s.1)

    back : Sound d → (conflicting t ≡ 0 → ⊥) → r ≡ report_of t (quotient (racing t) (conflicting t)) → report_answer (check_answer d) t ≡ report.reported r
    back (inl q) h e = rw (q.3, e) (counted_some t h)
    back (inr q) h e = rw (q, e) (counted_some t h)

-- ---- what is left in the lent buffers

-- w is the work area, c the other. A refusal leaves the work area alone, and every other verdict zeros in its first words; a cycle is in the cycle
-- buffer, and every other verdict leaves that alone
pub check_leaves : (w c : List ℕ) → ((n i : ℕ) → work_after (verdict.refused n i) w ≡ w)
    × ((v : Verdict) → ((n i : ℕ) → v ≡ verdict.refused n i → ⊥) → work_after v w ≡ replicate WORK 0 ++ drop WORK w)
    × ((rows edges : List ℕ) → cycle_after (verdict.cyclic rows edges) c ≡ tabulate (cycle_number rows edges) CYCLE ++ drop CYCLE c)
    × ((v : Verdict) → ((rows edges : List ℕ) → v ≡ verdict.cyclic rows edges → ⊥) → cycle_after v c ≡ c)
unfolding work_after wiped cycle_after
check_leaves w c = (λ n i. refl, zeros, λ rows edges. refl, kept)
  where
    zeros : (v : Verdict) → ((n i : ℕ) → v ≡ verdict.refused n i → ⊥) → work_after v w ≡ replicate WORK 0 ++ drop WORK w
    zeros (verdict.refused n i) f = absurd (f n i refl)
    zeros (verdict.cyclic rows edges) f = refl
    zeros (verdict.overwritten y z b) f = refl
    zeros (verdict.race x y b) f = refl
    zeros verdict.race_free f = refl

    kept : (v : Verdict) → ((rows edges : List ℕ) → v ≡ verdict.cyclic rows edges → ⊥) → cycle_after v c ≡ c
    kept (verdict.refused n i) f = refl
    kept (verdict.cyclic rows edges) f = absurd (f rows edges refl)
    kept (verdict.overwritten y z b) f = refl
    kept (verdict.race x y b) f = refl
    kept verdict.race_free f = refl

-- the same of a fill: where it is filled, the sources are in the source buffer, the rest of which is kept
pub fill_leaves : (w c : List ℕ) → ((n i : ℕ) → outcome.work_after (outcome.refused n i) w ≡ w)
    × ((o : Outcome) → ((n i : ℕ) → o ≡ outcome.refused n i → ⊥) → outcome.work_after o w ≡ replicate WORK 0 ++ drop WORK w)
    × ((l : List ℕ) → sources_after (outcome.filled l) c ≡ l ++ drop (length l) c)
    × ((o : Outcome) → ((l : List ℕ) → o ≡ outcome.filled l → ⊥) → sources_after o c ≡ c)
unfolding outcome.work_after wiped sources_after
fill_leaves w c = (λ n i. refl, zeros, λ l. refl, kept)
  where
    zeros : (o : Outcome) → ((n i : ℕ) → o ≡ outcome.refused n i → ⊥) → outcome.work_after o w ≡ replicate WORK 0 ++ drop WORK w
    zeros (outcome.refused n i) f = absurd (f n i refl)
    zeros (outcome.race x y b) f = refl
    zeros outcome.none f = refl
    zeros (outcome.filled l) f = refl

    kept : (o : Outcome) → ((l : List ℕ) → o ≡ outcome.filled l → ⊥) → sources_after o c ≡ c
    kept (outcome.refused n i) f = refl
    kept (outcome.race x y b) f = refl
    kept outcome.none f = refl
    kept (outcome.filled l) f = absurd (f l refl)

-- and of a derivation: where there is a chain, its steps are in the chain buffer, the rest of which is kept
pub derive_leaves : (w c : List ℕ) → ((n i : ℕ) → reason.work_after (reason.refused n i) w ≡ w)
    × ((d : Derived) → ((n i : ℕ) → d ≡ reason.refused n i → ⊥) → reason.work_after d w ≡ replicate WORK 0 ++ drop WORK w)
    × ((k : ℕ) (l : List ℕ) → chain_after (reason.chained k l) c ≡ l ++ drop (length l) c)
    × ((d : Derived) → ((k : ℕ) (l : List ℕ) → d ≡ reason.chained k l → ⊥) → chain_after d c ≡ c)
unfolding reason.work_after wiped chain_after
derive_leaves w c = (λ n i. refl, zeros, λ k l. refl, kept)
  where
    zeros : (d : Derived) → ((n i : ℕ) → d ≡ reason.refused n i → ⊥) → reason.work_after d w ≡ replicate WORK 0 ++ drop WORK w
    zeros (reason.refused n i) f = absurd (f n i refl)
    zeros reason.word f = refl
    zeros (reason.chained k l) f = refl
    zeros reason.not_before f = refl

    kept : (d : Derived) → ((k : ℕ) (l : List ℕ) → d ≡ reason.chained k l → ⊥) → chain_after d c ≡ c
    kept (reason.refused n i) f = refl
    kept reason.word f = refl
    kept (reason.chained k l) f = absurd (f k l refl)
    kept reason.not_before f = refl
