-- What the calls of a fill come to, from the rows of an admitted table and from the bytes of two pieces. Assumes nothing.
use Rattle.std.specs.Prelude.{◌≡◌, Bool, true, false, cond, List, ℕ, ◌≤◌, ◌<◌, length, ltb}
use Rattle.std.proofs.Math.Path.{refl}
use Rattle.std.proofs.Common.{sym, ap, ap₂, ◌∙◌}
use Rattle.finite.specs.Logic.{◌and◌}
use Rattle.finite.specs.Lists.{tabulate}
use Rattle.bits.specs.Bit.{zeros}
use Rattle.std.specs.declared.result.Result.{Result}
use Rattle.std.specs.declared.result.Result.TheVariants.{Ok, Err}
use Rattle.model.specs.declared.{Refusal.Refusal, Counts.Counts}
use Rattle.model.specs.declared.FillAnswer.{FillAnswer}
use Rattle.model.specs.Refusal.{admission_answer}
use Rattle.model.specs.Limits.{WORK, SOURCES}
use Rattle.model.specs.Table.{Mode, Table, source_of, decode}
use Rattle.model.specs.Race.{race_row, race_partner, race_byte}
use Rattle.model.specs.Edge.{consistent}
use Rattle.model.specs.Check.{race_or, wiped}
use Rattle.model.specs.Fill.{Outcome, refused, race, none, filled, blank, chosen, sources_fit, filled_or, outcome, fill, fill_answer, sources_after, work_after}
use Rattle.model_laws.specs.SourceLaws.{filled_same}
use Rattle.find_axioms.specs.Sources.{source_in}
use Rattle.find_sources.specs.Sources.{Listed}
use Rattle.ask_check.specs.Whole.{wiped_after}
use Rattle.door_pieces.specs.Pieces.{fill_both}
use Rattle.door_pieces.specs.Entry.{door_both, Left, left_same, when_refused, when_admitted_lem}
use Rattle.run.specs.Layout.{rows_in, table_in}
use Rattle.door_open.specs.Opened.{Entered}
use Rattle.door_pieces.specs.Answers.{fill_both_lem}
use Rattle.ask_fill.specs.Parts.{Fills}

-- ---- laws: the rows of an admitted table

chosen_same : (t : Table) (a b : ℕ → ℕ) (i : ℕ) → a i ≡ b i → chosen t a i ≡ chosen t b i
unfolding chosen blank
chosen_same t a b i e = rw e refl

outcome_same : (t : Table) (a b : ℕ → ℕ) → ((i : ℕ) → i < t.rows → a i ≡ b i) → outcome t a ≡ outcome t b
unfolding outcome
outcome_same t a b same = ap (λ (o : Outcome). race_or race o t) (filled_same t (chosen t a) (chosen t b) (λ i l. chosen_same t a b i (same i l)) none)

-- filled, wiped
pub rows_filled : (b : List ℕ) (p : List (List ℕ)) (mode : Mode) (n : ℕ) {src w u z c d : List ℕ} {r : FillAnswer} → Listed (source_of b) n src
    → WORK ≤ length w → Fills (decode b p mode n) (source_in src) r w u c d → z ≡ zeros u 0 WORK
    → (Ok r ≡ fill_answer (outcome (decode b p mode n) (source_of b))) × (z ≡ wiped w) × (d ≡ sources_after (outcome (decode b p mode n) (source_of b)) c)
unfolding decode
rows_filled b p mode n {src} {w} {u} {z} {c} listed room told cleared =
    let o = outcome_same (decode b p mode n) (source_in src) (source_of b) (λ i m. listed.each i m) in
    (told.answer ∙ ap fill_answer o, wiped_after w u z room told.frame cleared, told.buffer ∙ ap (λ (y : Outcome). sources_after y c) o)

-- ---- laws: no outcome of such a table is a refusal

filled_wiped : (t : Table) (source : ℕ → ℕ) (w : List ℕ) → work_after (filled_or none t source) w ≡ wiped w
unfolding filled_or work_after
filled_wiped t source w = go (sources_fit t source and consistent t source)
  where
    go : (b : Bool) → work_after (cond b (filled (tabulate source t.rows)) none) w ≡ wiped w
    go true = refl
    go false = refl

outcome_wiped : (t : Table) (source : ℕ → ℕ) (w : List ℕ) → work_after (outcome t source) w ≡ wiped w
unfolding outcome race_or work_after
outcome_wiped t source w = go (ltb (race_row t) t.rows)
  where
    go : (b : Bool)
        → work_after (cond b (race (race_row t) (race_partner t (race_row t)) (race_byte t (race_row t) (race_partner t (race_row t))))
        (filled_or none t (chosen t source))) w ≡ wiped w
    go true = refl
    go false = filled_wiped t (chosen t source) w

-- ---- laws: the entry point

-- what comes back, by the outcome
abbrev pub Filled : Outcome → Result FillAnswer Refusal → List ℕ → List ℕ → List ℕ → List ℕ → Type 0
Filled o r w u c d = Left fill_answer work_after sources_after o r w u c d

-- the fill of the table s: the answer r; the work area w becomes u, the source buffer c becomes d
abbrev pub FilledBy : Bool → List ℕ → Result FillAnswer Refusal → List ℕ → List ℕ → List ℕ → List ℕ → Type 0
FilledBy chains s r w u c d = Filled (fill chains s (length w) (length c)) r w u c d

-- the same of a table in two pieces, f and s
abbrev pub FilledBoth : Bool → List ℕ → List ℕ → Result FillAnswer Refusal → List ℕ → List ℕ → List ℕ → List ℕ → Type 0
FilledBoth chains f s r w u c d = Filled (fill_both chains f s (length w) (length c)) r w u c d

module _ (chains : Bool) (f s w c : List ℕ) (a : Result Counts Refusal) (e : a ≡ admission_answer (door_both SOURCES true f s (length w) (length c))) where
  abbrev told : Outcome
  told = fill_both chains f s (length w) (length c)

  pub filled_refused : {x : Refusal} → a ≡ Err x → Filled told (Err x) w w c c
  unfolding fill_answer work_after sources_after
  filled_refused h =
      left_same fill_answer work_after sources_after (fill_both_lem chains (length w) (length c) f s ∙ when_refused refused _ a _ e h) (refl, refl, refl)

  module _ {k : Counts} (h : a ≡ Ok k) (t : List ℕ) (opened : Entered SOURCES true chains f s (length w) (length c) t k.rows) where
    abbrev pub outcome_run : Outcome
    outcome_run = outcome (table_in t k.rows) (source_of (rows_in t))

    told_is : told ≡ outcome_run
    told_is =
        fill_both_lem chains (length w) (length c) f s ∙ when_admitted_lem refused _ a _ e h ∙ sym (ap₂ outcome opened.table opened.sources)

    pub filled_outcome : (r : FillAnswer) (u d : List ℕ) → (Ok r ≡ fill_answer outcome_run) × (u ≡ wiped w) × (d ≡ sources_after outcome_run c)
        → Filled told (Ok r) w u c d
    filled_outcome r u d j = left_same fill_answer work_after sources_after told_is (j.0, j.1 ∙ sym (outcome_wiped _ _ w), j.2)
