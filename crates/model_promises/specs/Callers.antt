-- What a caller of the functions gets, to be read like Main.antt: each case of an answer, and what is left in the
-- buffers.
use Rattle.std.specs.Prelude.{◌≡◌, true, false, List, ◌++◌, ◌↔◌, ℕ, length, drop, replicate}
use Rattle.finite.specs.Lists.{tabulate}
use Rattle.std.specs.declared.result.Result.TheVariants.{Ok, Err}
use Rattle.model.specs.declared.{CheckAnswer.CheckAnswer, FillAnswer.FillAnswer}
use Rattle.model.specs.declared.DeriveAnswer.{DeriveAnswer}
use Rattle.model.specs.Limits.{WORK, CYCLE}
use Rattle.model.specs.Refusal.{refusal}
use Rattle.model.specs.Check.{Verdict, check_answer, cycle_number, cycle_after, work_after}
use Rattle.model.specs.Fill.{Outcome, fill_answer, sources_after}
use Rattle.model.specs.Fill as Fill
use Rattle.model.specs.Reason.{Judged, Derived, accept_answer, derive_answer, chain_after}
use Rattle.model.specs.Reason as Derivation
use Rattle.model.specs.declared.{Report.Report, ReportAnswer.ReportAnswer}
use Rattle.model.specs.Report.{Told, told_answer}
use Rattle.model_promises.specs.Answers

-- ==== Each answer's numbers: a case is given exactly for what it is named after

pub check_cases : (v : Verdict) → ((n i : ℕ) → (check_answer v ≡ Err (refusal n i)) ↔ (v ≡ Verdict.refused n i))
    × ((k : ℕ) → (check_answer v ≡ Ok (CheckAnswer.Cycle k))
    ↔ ((rows : List ℕ) × (edges : List ℕ) × (v ≡ Verdict.cyclic rows edges) × (length rows ≡ k)))
    × ((y z b : ℕ) → (check_answer v ≡ Ok (CheckAnswer.Overwritten (record { reader = y; writer = z; byte = b }))) ↔ (v ≡ Verdict.overwritten y z b))
    × ((x y b : ℕ) → (check_answer v ≡ Ok (CheckAnswer.Race (record { first = x; second = y; byte = b }))) ↔ (v ≡ Verdict.race x y b))
    × ((check_answer v ≡ Ok CheckAnswer.RaceFree) ↔ (v ≡ Verdict.race_free))
check_cases v = (
  Answers.checks_refused v,
  Answers.checks_cycle v,
  Answers.checks_overwritten v,
  Answers.checks_race v,
  Answers.checks_free v,
)

pub fill_cases : (o : Outcome) → ((n i : ℕ) → (fill_answer o ≡ Err (refusal n i)) ↔ (o ≡ Outcome.refused n i))
    × ((x y b : ℕ) → (fill_answer o ≡ Ok (FillAnswer.Race (record { first = x; second = y; byte = b }))) ↔ (o ≡ Outcome.race x y b))
    × ((fill_answer o ≡ Ok FillAnswer.None) ↔ (o ≡ Outcome.none))
    × ((fill_answer o ≡ Ok FillAnswer.Filled) ↔ ((l : List ℕ) × (o ≡ Outcome.filled l)))
fill_cases o = (Answers.fills_refused o, Answers.fills_race o, Answers.fills_none o, Answers.fills_filled o)

pub derive_cases : (d : Derived) → ((n i : ℕ) → (derive_answer d ≡ Err (refusal n i)) ↔ (d ≡ Derived.refused n i))
    × ((derive_answer d ≡ Ok DeriveAnswer.ProgramOrder) ↔ (d ≡ Derived.word))
    × ((derive_answer d ≡ Ok DeriveAnswer.NotBefore) ↔ (d ≡ Derived.not_before))
    × ((c k : ℕ) → (derive_answer d ≡ Ok (DeriveAnswer.Chain c k))
    ↔ ((l : List ℕ) × (d ≡ Derived.chained c l) × (length l ≡ k)))
derive_cases d =
    (Answers.derives_refused d, Answers.derives_program_order d, Answers.derives_not_before d, Answers.derives_chain d)

pub accept_cases : (j : Judged) → ((n i : ℕ) → (accept_answer j ≡ Err (refusal n i)) ↔ (j ≡ Judged.refused n i))
    × ((accept_answer j ≡ Ok true) ↔ (j ≡ Judged.accepted))
    × ((accept_answer j ≡ Ok false) ↔ (j ≡ Judged.not_accepted))
accept_cases j = (Answers.reads_refused j, Answers.reads_accepted j, Answers.reads_not_accepted j)

pub report_cases : (a : Told) → ((n i : ℕ) → (told_answer a ≡ Err (refusal n i)) ↔ (a ≡ Told.refused n i))
    × ((k : ℕ) → (told_answer a ≡ Ok (ReportAnswer.Cycle k)) ↔ (a ≡ Told.cyclic k))
    × ((y z b : ℕ) → (told_answer a ≡ Ok (ReportAnswer.Overwritten (record { reader = y; writer = z; byte = b })))
    ↔ (a ≡ Told.overwritten y z b))
    × ((told_answer a ≡ Ok ReportAnswer.NoPairs) ↔ (a ≡ Told.no_pairs))
    × ((r : Report) → (told_answer a ≡ Ok (ReportAnswer.Report r)) ↔ (a ≡ Told.reported r))
report_cases a = (
  Answers.tells_refused a,
  Answers.tells_cycle a,
  Answers.tells_overwritten a,
  Answers.tells_none a,
  Answers.tells_report a,
)

-- ==== What is left in the lent buffers, of which w is the work area and c the other
--
-- A refusal leaves the work area alone, and all else zeros in its first words. A cycle, the sources or a chain are in
-- the other buffer, the rest of which is kept, and all else leaves that alone. A report leaves what a check leaves

pub check_leaves : (w c : List ℕ) → ((n i : ℕ) → work_after (Verdict.refused n i) w ≡ w)
    × ((v : Verdict) → ((n i : ℕ) → v ≡ Verdict.refused n i → ⊥) → work_after v w ≡ replicate WORK 0 ++ drop WORK w)
    × ((rows edges : List ℕ)
    → cycle_after (Verdict.cyclic rows edges) c ≡ tabulate (cycle_number rows edges) CYCLE ++ drop CYCLE c)
    × ((v : Verdict) → ((rows edges : List ℕ) → v ≡ Verdict.cyclic rows edges → ⊥) → cycle_after v c ≡ c)
check_leaves = Answers.check_leaves

pub fill_leaves : (w c : List ℕ) → ((n i : ℕ) → Fill.work_after (Outcome.refused n i) w ≡ w)
    × ((o : Outcome) → ((n i : ℕ) → o ≡ Outcome.refused n i → ⊥) → Fill.work_after o w ≡ replicate WORK 0 ++ drop WORK w)
    × ((l : List ℕ) → sources_after (Outcome.filled l) c ≡ l ++ drop (length l) c)
    × ((o : Outcome) → ((l : List ℕ) → o ≡ Outcome.filled l → ⊥) → sources_after o c ≡ c)
fill_leaves = Answers.fill_leaves

pub derive_leaves : (w c : List ℕ) → ((n i : ℕ) → Derivation.work_after (Derived.refused n i) w ≡ w)
    × ((d : Derived) → ((n i : ℕ) → d ≡ Derived.refused n i → ⊥)
    → Derivation.work_after d w ≡ replicate WORK 0 ++ drop WORK w)
    × ((k : ℕ) (l : List ℕ) → chain_after (Derived.chained k l) c ≡ l ++ drop (length l) c)
    × ((d : Derived) → ((k : ℕ) (l : List ℕ) → d ≡ Derived.chained k l → ⊥) → chain_after d c ≡ c)
derive_leaves = Answers.derive_leaves
