-- What the calls of a check come to, from the rows of an admitted table and from the bytes of two pieces. Assumes nothing.
use Rattle.std.specs.Prelude.{◌≡◌, ◌⊎◌, Bool, true, false, cond, List, ℕ, ◌≤◌, ◌<◌, length, ltb}
use Rattle.std.proofs.Math.Path.{refl}
use Rattle.std.proofs.Common.{sym, ap, ap₂, subst, subst₂, ◌∙◌, arith}
use Rattle.bits.specs.Bit.{zeros}
use Rattle.bits.specs.Within.{Within, within_widen, zeros_within}
use Rattle.std.specs.declared.result.Result.{Result}
use Rattle.std.specs.declared.result.Result.TheVariants.{Ok, Err}
use Rattle.model.specs.declared.{Refusal.Refusal, Counts.Counts}
use Rattle.model.specs.declared.CheckAnswer.{CheckAnswer}
use Rattle.model.specs.Refusal.{admission_answer}
use Rattle.model_laws.specs.AdmissionLaws.{answer_admitted}
use Rattle.model.specs.Limits.{WORK, CYCLE, INITIAL}
use Rattle.model.specs.Table.{Mode, Table, source_of, decode}
use Rattle.model.specs.Race.{race_row, race_partner, race_byte}
use Rattle.model.specs.Edge.{cycle_row, cycle_rows, cycle_edges, over_reader, over_writer, over_byte}
use Rattle.model.specs.Check.{Verdict, refused, cyclic, overwritten, race, race_free, race_or, overwritten_or, cyclic_or, verdict, check, check_answer, cycle_after}
use Rattle.model.specs.Check.{work_after, wiped}
use Rattle.model_laws.specs.SourceLaws.{verdict_same}
use Rattle.work_area.specs.Regions.{MUTUAL, LOCATED_END}
use Rattle.model_placing.specs.Judge.{Sourced}
use Rattle.model_placing.specs.Admitted.{sourced_of}
use Rattle.find_axioms.specs.Sources.{source_in}
use Rattle.find_sources.specs.Sources.{Listed}
use Rattle.door_pieces.specs.Pieces.{check_both}
use Rattle.door_pieces.specs.Entry.{door_both, door_admits, sound_both, Left, left_same, zeros_wiped, when_refused, when_admitted_lem}
use Rattle.run.specs.Layout.{rows_in, table_in}
use Rattle.door_open.specs.Opened.{Entered}
use Rattle.door_pieces.specs.Answers.{check_both_lem}
use Rattle.ask_check.specs.Engine.{Judges}

-- a verdict that stays inside the area's own part, and the part cleared after it
pub wiped_after : (w u z : List ℕ) → WORK ≤ length w → Within MUTUAL LOCATED_END w u → z ≡ zeros u 0 WORK → z ≡ wiped w
wiped_after w u z room f e = e ∙ zeros_within 0 WORK w u (omega arith) (within_widen 0 WORK (omega arith) (omega arith) f) ∙ zeros_wiped w room

-- the verdict over a list of the sources
verdict_is : (b : List ℕ) (p : List (List ℕ)) (mode : Mode) (n : ℕ) (src : List ℕ) → Listed (source_of b) n src
    → verdict (decode b p mode n) (source_in src) ≡ verdict (decode b p mode n) (source_of b)
unfolding decode
verdict_is b p mode n src l = verdict_same (decode b p mode n) (source_in src) (source_of b) (λ i m. l.each i m)

-- the calls of a verdict, one after the other
pub judged : (b : List ℕ) (p : List (List ℕ)) (mode : Mode) (n : ℕ) {src w u z c d : List ℕ} {r : CheckAnswer} → Listed (source_of b) n src → WORK ≤ length w
    → Judges (decode b p mode n) (source_in src) r w u c d → z ≡ zeros u 0 WORK
    → (Ok r ≡ check_answer (verdict (decode b p mode n) (source_of b))) × (z ≡ wiped w) × (d ≡ cycle_after (verdict (decode b p mode n) (source_of b)) c)
judged b p mode n {src} {w} {u} {z} {c} listed room told cleared =
    let q = verdict_is b p mode n src listed in
    (told.answer ∙ ap check_answer q, wiped_after w u z room told.frame cleared, told.buffer ∙ ap (λ (y : Verdict). cycle_after y c) q)

-- sources in a list that are those of a table that passes
pub sourced_in : (b : List ℕ) (p : List (List ℕ)) (mode : Mode) (n : ℕ) {src : List ℕ} → Listed (source_of b) n src → Sourced (decode b p mode n) (source_of b)
    → Sourced (decode b p mode n) (source_in src)
unfolding decode
sourced_in b p mode n l s y m r = subst (λ (z : ℕ). (z < n) ⊎ (z ≡ INITIAL)) (sym (l.each y m)) (s y m r)

-- ---- the entry point

-- a verdict on an admitted table is no refusal, so the work area is wiped
verdict_wipes : (t : Table) (source : ℕ → ℕ) (w : List ℕ) → work_after (verdict t source) w ≡ wiped w
unfolding verdict cyclic_or overwritten_or race_or work_after
verdict_wipes t source w = go (ltb (cycle_row t source) t.rows) (ltb (over_reader t source) t.rows) (ltb (race_row t) t.rows)
  where
    go : (a b c : Bool)
        → work_after (cond a (cyclic (cycle_rows t source) (cycle_edges t source))
        (cond b (overwritten (over_reader t source) (over_writer t source (over_reader t source))
        (over_byte t source (over_reader t source) (over_writer t source (over_reader t source))))
        (cond c (race (race_row t) (race_partner t (race_row t)) (race_byte t (race_row t) (race_partner t (race_row t)))) race_free))) w
        ≡ wiped w
    go true b c = refl
    go false true c = refl
    go false false true = refl
    go false false false = refl

-- what a check says, and what its buffers hold
abbrev pub Said : Verdict → Result CheckAnswer Refusal → List ℕ → List ℕ → List ℕ → List ℕ → Type 0
Said v r w x c d = Left check_answer work_after cycle_after v r w x c d

-- the check of the table s: the answer r; the work area w becomes x, the cycle buffer c becomes d
abbrev pub Checked : Bool → List ℕ → Result CheckAnswer Refusal → List ℕ → List ℕ → List ℕ → List ℕ → Type 0
Checked chains s r w x c d = Said (check chains s (length w) (length c)) r w x c d

-- the same of a table in two pieces, f and s
abbrev pub CheckedBoth : Bool → List ℕ → List ℕ → Result CheckAnswer Refusal → List ℕ → List ℕ → List ℕ → List ℕ → Type 0
CheckedBoth chains f s r w x c d = Said (check_both chains f s (length w) (length c)) r w x c d

-- a check admits no source that is neither a row nor the initial value
pub sourced : {needs work buffer : ℕ} {chains : Bool} {f s t : List ℕ} {a : Result Counts Refusal} {k : Counts}
    → a ≡ admission_answer (door_both needs false f s work buffer) → a ≡ Ok k → Entered needs false chains f s work buffer t k.rows
    → Sourced (table_in t k.rows) (source_of (rows_in t))
sourced {needs} {work} {buffer} {chains} {f} {s} e h opened =
    let d = door_both needs false f s work buffer in
    let admits = answer_admitted d (sym e ∙ h) in
    let k = door_admits needs false f s work buffer d refl admits in
    subst₂ (λ (t : Table) (z : ℕ → ℕ). Sourced t z) (sym opened.table) (sym opened.sources) (sourced_of (sound_both false f s d k.2 admits) chains)

module _ (chains : Bool) (f s w c : List ℕ) (a : Result Counts Refusal) (e : a ≡ admission_answer (door_both CYCLE false f s (length w) (length c))) where
  abbrev told : Verdict
  told = check_both chains f s (length w) (length c)

  pub said_refused : {x : Refusal} → a ≡ Err x → Said told (Err x) w w c c
  unfolding check_answer work_after cycle_after
  said_refused h =
      left_same check_answer work_after cycle_after (check_both_lem chains (length w) (length c) f s ∙ when_refused refused _ a _ e h) (refl, refl, refl)

  module _ {k : Counts} (h : a ≡ Ok k) (t : List ℕ) (opened : Entered CYCLE false chains f s (length w) (length c) t k.rows) where
    abbrev pub verdict_run : Verdict
    verdict_run = verdict (table_in t k.rows) (source_of (rows_in t))

    told_is : told ≡ verdict_run
    told_is =
        check_both_lem chains (length w) (length c) f s ∙ when_admitted_lem refused _ a _ e h ∙ sym (ap₂ verdict opened.table opened.sources)

    -- the buffers, whatever is said
    pub wiped_run : (x : List ℕ) → x ≡ wiped w → x ≡ work_after told w
    wiped_run x e = e ∙ sym (verdict_wipes _ _ w) ∙ sym (ap (λ (v : Verdict). work_after v w) told_is)

    pub cycle_run : (d : List ℕ) → d ≡ cycle_after verdict_run c → d ≡ cycle_after told c
    cycle_run d e = e ∙ sym (ap (λ (v : Verdict). cycle_after v c) told_is)

    pub said_verdict : (r : CheckAnswer) (x d : List ℕ) → (Ok r ≡ check_answer verdict_run) × (x ≡ wiped w) × (d ≡ cycle_after verdict_run c)
        → Said told (Ok r) w x c d
    said_verdict r x d j = left_same check_answer work_after cycle_after told_is (j.0, j.1 ∙ sym (verdict_wipes _ _ w), j.2)
