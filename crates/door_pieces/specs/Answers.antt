-- The five kinds of answer to two pieces: each a refusal at the door or what the joined table gets, and with an empty second piece the one
-- of the first piece alone, for all bytes. Assumes nothing.
use Rattle.std.specs.Prelude.{◌≡◌, Bool, List, [], ℕ}
use Rattle.std.proofs.Math.Path.{refl, ap, ap₂}
use Rattle.std.proofs.Common.{◌∙◌}
use Rattle.std.proofs.Math.Bool.{true, false}
use Rattle.model.specs.declared.Admission.{Admission}
use Rattle.model.specs.declared.Admission.TheVariants.{Admitted, Refused}
use Rattle.model.specs.declared.Reason.{Reason}
use Rattle.model.specs.Report.{Told}
use Rattle.model.specs.Report as told
use Rattle.model.specs.Limits.{CYCLE, SOURCES, STEPS}
use Rattle.model.specs.Table.{Table, table_under, table_of, sources_of}
use Rattle.model.specs.Refusal.{buffers_fit, admission, when_admitted}
use Rattle.model.specs.Check.{Verdict, verdict, check, check_answer}
use Rattle.model.specs.Check as verdicts
use Rattle.model.specs.Fill.{Outcome, outcome, fill}
use Rattle.model.specs.Fill as outcomes
use Rattle.model.specs.Reason.{Judged, judged, judge, Derived, derived_of, derive}
use Rattle.model.specs.Reason as reasons
use Rattle.model.specs.Report.{report_answer, report}
use Rattle.model.specs.Refusal.{shape_fault}
use Rattle.door_pieces.specs.Pieces.{joined, admission_both, check_both, fill_both, report_both, derive_both, judge_both}
use Rattle.door_pieces.specs.PiecesLaws.{none_table, none_sources}
use Rattle.door_pieces.specs.Entry.{door_both, both_opened, door_opened, none_one, none_door}

none_table_of : (f : List ℕ) → shape_fault f ≡ 0 → table_of (joined f []) ≡ table_of f
unfolding table_of
none_table_of f z = none_table f z false

-- ---- check

module _ (chains : Bool) where
  -- of an admitted table
  abbrev pub verdict_of : List ℕ → Verdict
  verdict_of t = verdict (table_under chains t) (sources_of t)

  module _ (work buffer : ℕ) where
    check_opens : buffers_fit CYCLE work buffer ≡ true → (t : List ℕ)
        → check chains t work buffer ≡ when_admitted verdicts.refused (admission false t) (verdict_of t)
    unfolding check
    check_opens e t = rw e refl

    pub check_short : buffers_fit CYCLE work buffer ≡ false → (t : List ℕ) → check chains t work buffer ≡ verdicts.refused 11 0
    unfolding check
    check_short e t = rw e refl

    same_verdict : (f : List ℕ) → shape_fault f ≡ 0 → verdict_of (joined f []) ≡ verdict_of f
    same_verdict f z = ap₂ verdict (none_table f z chains) (none_sources f z)

    pub check_both_lem : (f s : List ℕ) → check_both chains f s work buffer
        ≡ when_admitted verdicts.refused (door_both CYCLE false f s work buffer) (verdict_of (joined f s))
    unfolding check_both
    check_both_lem f s = door_opened verdicts.refused (λ t. check chains t work buffer) verdict_of false CYCLE work buffer check_opens f s

    pub none_check : (f : List ℕ) → check_both chains f [] work buffer ≡ check chains f work buffer
    unfolding check_both
    none_check f = none_door verdicts.refused (λ t. check chains t work buffer) verdict_of false CYCLE work buffer check_opens f
        (same_verdict f) (λ e. check_short e f)

    -- ---- report

    -- of an admitted table
    abbrev pub report_of_table : List ℕ → Told
    report_of_table t = report_answer (check_answer (verdict_of t)) (table_under chains t)

    report_opens : buffers_fit CYCLE work buffer ≡ true → (t : List ℕ)
        → report chains t work buffer ≡ when_admitted told.refused (admission false t) (report_of_table t)
    unfolding report report_answer check_answer when_admitted
    report_opens e t = ap (λ (v : Verdict). report_answer (check_answer v) (table_under chains t)) (check_opens e t) ∙ go (admission false t)
      where
        go : (a : Admission)
            → report_answer (check_answer (when_admitted verdicts.refused a (verdict_of t))) (table_under chains t) ≡ when_admitted told.refused a (report_of_table t)
        go (Refused n i) = refl
        go (Admitted g n) = refl

    pub report_short : buffers_fit CYCLE work buffer ≡ false → (t : List ℕ) → report chains t work buffer ≡ told.refused 11 0
    unfolding report report_answer check_answer
    report_short e t = ap (λ (v : Verdict). report_answer (check_answer v) (table_under chains t)) (check_short e t)

    same_report : (f : List ℕ) → shape_fault f ≡ 0 → report_of_table (joined f []) ≡ report_of_table f
    same_report f z = ap₂ (λ (v : Verdict) (t : Table). report_answer (check_answer v) t) (same_verdict f z) (none_table f z chains)

    pub report_both_lem : (f s : List ℕ)
        → report_both chains f s work buffer ≡ when_admitted told.refused (door_both CYCLE false f s work buffer) (report_of_table (joined f s))
    unfolding report_both
    report_both_lem f s = door_opened told.refused (λ t. report chains t work buffer) report_of_table false CYCLE work buffer report_opens f s

    pub none_report : (f : List ℕ) → report_both chains f [] work buffer ≡ report chains f work buffer
    unfolding report_both
    none_report f = none_door told.refused (λ t. report chains t work buffer) report_of_table false CYCLE work buffer report_opens f
        (same_report f) (λ e. report_short e f)

-- ---- fill

module _ (chains : Bool) where
  -- of an admitted table
  abbrev pub outcome_of : List ℕ → Outcome
  outcome_of t = outcome (table_under chains t) (sources_of t)

  module _ (work buffer : ℕ) where
    fill_opens : buffers_fit SOURCES work buffer ≡ true → (t : List ℕ)
        → fill chains t work buffer ≡ when_admitted outcomes.refused (admission true t) (outcome_of t)
    unfolding fill
    fill_opens e t = rw e refl

    pub fill_short : buffers_fit SOURCES work buffer ≡ false → (t : List ℕ) → fill chains t work buffer ≡ outcomes.refused 11 0
    unfolding fill
    fill_short e t = rw e refl

    pub fill_both_lem : (f s : List ℕ) → fill_both chains f s work buffer
        ≡ when_admitted outcomes.refused (door_both SOURCES true f s work buffer) (outcome_of (joined f s))
    unfolding fill_both
    fill_both_lem f s = door_opened outcomes.refused (λ t. fill chains t work buffer) outcome_of true SOURCES work buffer fill_opens f s

    pub none_fill : (f : List ℕ) → fill_both chains f [] work buffer ≡ fill chains f work buffer
    unfolding fill_both
    none_fill f =
        none_door outcomes.refused (λ t. fill chains t work buffer) outcome_of true SOURCES work buffer fill_opens f
        (λ z. ap₂ outcome (none_table f z chains) (none_sources f z)) (λ e. fill_short e f)

-- ---- derive

abbrev pub not_derived : ℕ → ℕ → Derived
not_derived n i = reasons.refused n i

module _ (m k : ℕ) where
  module _ (work buffer : ℕ) where
    derive_opens : buffers_fit STEPS work buffer ≡ true → (t : List ℕ)
        → derive t m k work buffer ≡ when_admitted not_derived (admission true t) (derived_of (table_of t) m k)
    unfolding derive
    derive_opens e t = rw e refl

    pub derive_short : buffers_fit STEPS work buffer ≡ false → (t : List ℕ) → derive t m k work buffer ≡ reasons.refused 11 0
    unfolding derive
    derive_short e t = rw e refl

    pub derive_both_lem : (f s : List ℕ)
        → derive_both f s m k work buffer ≡ when_admitted not_derived (door_both STEPS true f s work buffer) (derived_of (table_of (joined f s)) m k)
    unfolding derive_both
    derive_both_lem f s = door_opened not_derived (λ t. derive t m k work buffer) (λ t. derived_of (table_of t) m k) true STEPS work buffer derive_opens f s

    pub none_derive : (f : List ℕ) → derive_both f [] m k work buffer ≡ derive f m k work buffer
    unfolding derive_both
    none_derive f =
        none_door not_derived (λ t. derive t m k work buffer) (λ t. derived_of (table_of t) m k) true STEPS work buffer derive_opens f
        (λ z. ap (λ (t : Table). derived_of t m k) (none_table_of f z)) (λ e. derive_short e f)

-- ---- accepts

abbrev pub not_judged : ℕ → ℕ → Judged
not_judged n i = reasons.refused n i

module _ (m k : ℕ) (why : Reason) (steps : List ℕ) where
  judge_opens : (t : List ℕ) → judge t m k why steps ≡ when_admitted not_judged (admission true t) (judged (table_of t) m k why steps)
  unfolding judge
  judge_opens t = refl

  pub judge_both_lem : (f s : List ℕ) → judge_both f s m k why steps ≡ when_admitted not_judged (admission_both true f s) (judged (table_of (joined f s)) m k why steps)
  unfolding judge_both
  judge_both_lem f s = both_opened not_judged (λ t. judge t m k why steps) (λ t. judged (table_of t) m k why steps) true judge_opens f s

  pub none_judge : (f : List ℕ) → judge_both f [] m k why steps ≡ judge f m k why steps
  unfolding judge_both
  none_judge f =
      none_one not_judged (λ t. judge t m k why steps) (λ t. judged (table_of t) m k why steps) true judge_opens f
      (λ z. ap (λ (t : Table). judged t m k why steps) (none_table_of f z))
