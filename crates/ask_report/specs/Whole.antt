-- What the calls of a report come to, from the rows of an admitted table and from the bytes of two pieces: its answer goes with a check's, and
-- both buffers end as a check leaves them. Assumes nothing.
use Rattle.std.specs.Prelude.{◌≡◌, ◌⊎◌, refl, Bool, false, List, [], ℕ, ◌≤◌, length}
use Rattle.std.proofs.Common.{sym, ap, ap₂, ◌∙◌, inl, inr}
use Rattle.bits.specs.Bit.{zeros}
use Rattle.bits.specs.Within.{Within}
use Rattle.std.specs.declared.result.Result.{Result}
use Rattle.std.specs.declared.result.Result.TheVariants.{Ok, Err}
use Rattle.model.specs.declared.{Refusal.Refusal, Counts.Counts}
use Rattle.model.specs.Refusal.{admission_answer}
use Rattle.model.specs.declared.Race.{Race}
use Rattle.model.specs.declared.CheckAnswer.{CheckAnswer}
use Rattle.model.specs.declared.CheckAnswer.TheVariants as said
use Rattle.model.specs.declared.ReportAnswer.{ReportAnswer}
use Rattle.model.specs.Report as told
use Rattle.model.specs.Limits.{WORK, CYCLE}
use Rattle.model.specs.Table.{Mode, Table, source_of, decode}
use Rattle.model.specs.Check.{verdict, check, check_answer, cycle_after, work_after, wiped}
use Rattle.model.specs.Report.{report_on, report_answer, report, told_answer}
use Rattle.work_area.specs.Regions.{MUTUAL, LOCATED_END, EDGE, LAYERS_END}
use Rattle.find_axioms.specs.Sources.{source_in}
use Rattle.find_sources.specs.Sources.{Listed}
use Rattle.ask_check.specs.Engine.{judges}
use Rattle.ask_check.specs.Whole.{judged, said_refused, wiped_run, cycle_run}
use Rattle.door_pieces.specs.Pieces.{check_both, report_both}
use Rattle.door_pieces.specs.Entry.{door_both, when_refused, when_admitted_lem}
use Rattle.run.specs.Layout.{rows_in, table_in}
use Rattle.door_open.specs.Opened.{Entered}
use Rattle.door_pieces.specs.Answers.{report_both_lem, none_check, none_report}

-- ---- laws: a check's answer as a report's

pub answered : (a b : CheckAnswer) (t : Table) {r : ReportAnswer} → a ≡ b → Ok r ≡ told_answer (report_answer (Ok b) t)
    → Ok r ≡ told_answer (report_answer (Ok a) t)
answered a b t e f = f ∙ ap (λ (c : CheckAnswer). told_answer (report_answer (Ok c) t)) (sym e)

pub answered_counts : (a : CheckAnswer) (t : Table) {r : ReportAnswer} → ((x : Race) × (a ≡ said.Race x)) ⊎ (a ≡ said.RaceFree)
    → Ok r ≡ told_answer (report_on t) → Ok r ≡ told_answer (report_answer (Ok a) t)
unfolding report_answer
answered_counts a t (inl (x, e)) f = answered _ _ t e f
answered_counts a t (inr e) f = answered _ _ t e f

-- ---- laws: the rows of an admitted table

-- located, judged, answered, wiped
pub rows_reported : (b : List ℕ) (p : List (List ℕ)) (mode : Mode) (n : ℕ) (c : List ℕ) {src w v u z d : List ℕ} {a : CheckAnswer} {r : ReportAnswer}
    → Listed (source_of b) n src → WORK ≤ length w → Within MUTUAL LOCATED_END w v
    → (Ok a ≡ check_answer (verdict (decode b p mode n) (source_in src))) × (d ≡ cycle_after (verdict (decode b p mode n) (source_in src)) c)
    × Within EDGE LAYERS_END v u
    → Ok r ≡ told_answer (report_answer (Ok a) (decode b p mode n)) → z ≡ zeros u 0 WORK
    → (Ok r ≡ told_answer (report_answer (check_answer (verdict (decode b p mode n) (source_of b))) (decode b p mode n))) × (z ≡ wiped w)
    × (d ≡ cycle_after (verdict (decode b p mode n) (source_of b)) c)
rows_reported b p mode n c listed room located told said cleared =
    let k = judged b p mode n listed room (judges located told) cleared in
    (said ∙ ap (λ (y : Result CheckAnswer Refusal). told_answer (report_answer y (decode b p mode n))) k.0, k.1, k.2)

-- ---- laws: the entry point

module _ (chains : Bool) (f s w c : List ℕ) where
  -- what a report says, and what its buffers hold
  abbrev pub Reported : Result ReportAnswer Refusal → List ℕ → List ℕ → Type 0
  Reported r x d =
      (r ≡ told_answer (report_both chains f s (length w) (length c))) × (x ≡ work_after (check_both chains f s (length w) (length c)) w)
      × (d ≡ cycle_after (check_both chains f s (length w) (length c)) c)

  module _ (a : Result Counts Refusal) (e : a ≡ admission_answer (door_both CYCLE false f s (length w) (length c))) where
    pub reported_refused : {x : Refusal} → a ≡ Err x → Reported (Err x) w c
    unfolding told_answer
    reported_refused h =
        let k = said_refused chains f s w c a e h in
        (sym (ap told_answer (report_both_lem chains (length w) (length c) f s ∙ when_refused told.refused _ a _ e h)), k.1, k.2)

    module _ {k : Counts} (h : a ≡ Ok k) (t : List ℕ) (opened : Entered CYCLE false chains f s (length w) (length c) t k.rows) where
      pub reported_run : (r : ReportAnswer) (x d : List ℕ)
          → (Ok r ≡ told_answer (report_answer (check_answer (verdict (table_in t k.rows) (source_of (rows_in t)))) (table_in t k.rows))) × (x ≡ wiped w)
          × (d ≡ cycle_after (verdict (table_in t k.rows) (source_of (rows_in t))) c)
          → Reported (Ok r) x d
      reported_run r x d j = (
        j.0 ∙ ap₂ (λ (y : Table) (source : ℕ → ℕ). told_answer (report_answer (check_answer (verdict y source)) y)) opened.table opened.sources
            ∙ sym (ap told_answer (report_both_lem chains (length w) (length c) f s ∙ when_admitted_lem told.refused _ a _ e h)),
        wiped_run chains f s w c a e h t opened x j.1,
        cycle_run chains f s w c a e h t opened d j.2,
      )

-- one piece is two of which the second is empty
pub reported_one : (chains : Bool) (s w c : List ℕ) (r : Result ReportAnswer Refusal) (x d : List ℕ) → Reported chains s [] w c r x d
    → (r ≡ told_answer (report chains s (length w) (length c))) × (x ≡ work_after (check chains s (length w) (length c)) w)
    × (d ≡ cycle_after (check chains s (length w) (length c)) c)
reported_one chains s w c r x d h = rw (← none_report chains (length w) (length c) s, ← none_check chains (length w) (length c) s) h
