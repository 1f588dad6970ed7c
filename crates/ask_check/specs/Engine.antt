-- What both engines say of a run, and what their stages ask of each other. Assumes nothing.
use Rattle.std.specs.Prelude.{◌≡◌, List, ℕ, ◌≤◌, length}
use Rattle.std.proofs.Common.{arith}
use Rattle.model.specs.Limits.{ROWS, WORK}
use Rattle.std.specs.declared.result.Result.TheVariants.{Ok}
use Rattle.model.specs.declared.CheckAnswer.{CheckAnswer}
use Rattle.model.specs.Table.{Table, decode}
use Rattle.model.specs.Check.{verdict, check_answer, cycle_after}
use Rattle.bits.specs.Within.{Within, within_trans, within_widen}
use Rattle.bits.specs.Cube.{cube_kept}
use Rattle.work_area.specs.Regions.{MUTUAL, LOCATED_END, EDGE, LAYERS_END}
use Rattle.work_area.specs.State.{Placed}
use Rattle.find_race.specs.Bytes.{Ready, Bounded}
use Rattle.run.specs.Layout.{table_in}
use Rattle.sets_of_table.specs.Fit.{FitRun}
use Rattle.sets_grids.specs.Grid.{grid_kept}
use Rattle.sets_grids.specs.Given.{given_few, given_kept}
use Rattle.sets_grids.specs.Location.{ToJudge, judging_placed}
use Rattle.sets_engine.specs.Engine.{MadeJudging}

-- ---- definitions

-- the verdict on a table with such sources: the answer r, the work area w becomes u within its own part, the cycle buffer c becomes d
pub record Judges (t : Table) (source : ℕ → ℕ) (r : CheckAnswer) (w u c d : List ℕ) : Type 0 where
  pub answer : Ok r ≡ check_answer (verdict t source)
  pub buffer : d ≡ cycle_after (verdict t source) c
  pub frame : Within MUTUAL LOCATED_END w u

-- the lent buffers have room: the work area, and one for so many numbers
pub record Buffers (most : ℕ) (w c : List ℕ) : Type 0 where
  pub work : WORK ≤ length w
  pub numbers : most ≤ length c

-- location order by flags; and the bytes of each access are numbers of 16 bits
pub record Located (t : Table) (n : ℕ) (w : List ℕ) : Type 0 where
  pub bounded : Bounded t
  pub ready : Ready t n w

-- ---- laws

pub few_of : {t : List ℕ} {n : ℕ} → FitRun t n → n ≤ ROWS
unfolding decode
few_of fits = fits.fit.few

pub located : {t : List ℕ} {n : ℕ} {w u : List ℕ} → FitRun t n → WORK ≤ length w → Placed (table_in t n) n u × Within MUTUAL LOCATED_END w u → Located (table_in t n) n u
located fits room m =
    let e = m.1.len in
    record { bounded = λ i l a. fits.fit.ended i l a; ready = (few_of fits, omega arith, fits.fit.sized, m.0) }

-- what is read of the sets, in the words of the other engine
pub ready_by_sets : {t : Table} {n : ℕ} {s w : List ℕ} → ToJudge t n s w → Ready t n w
ready_by_sets j = let few = given_few j.given in (few, j.given.room, j.given.opened.fit.sized, judging_placed few j.judging)

-- edges and the search for a cycle keep it
pub judge_kept : {t : Table} {n : ℕ} {s w u : List ℕ} → Within EDGE LAYERS_END w u → ToJudge t n s w → ToJudge t n s u
judge_kept f g =
    let few = given_few g.given in
    let j = g.judging in
    record {
      given = given_kept f g.given;
      judging =
          record {
            mutuals = grid_kept (λ h. absurd (omega arith)) f j.mutuals;
            laters = grid_kept (λ h. absurd (omega arith)) f j.laters;
            some = grid_kept (λ h. absurd (omega arith)) f j.some;
            location = cube_kept (λ h. absurd (omega arith)) f j.location;
            overlapping = grid_kept (λ h. omega arith) f j.overlapping;
          };
    }

pub to_judge : {t : Table} {n : ℕ} {s w u : List ℕ} → MadeJudging t n s w u → WORK ≤ length w → ToJudge t n s u
to_judge m room = record { given = record { opened = m.opened; room = let e = m.frame.len in omega arith }; judging = m.judging }

-- location order, then the verdict
pub judges : {t : Table} {source : ℕ → ℕ} {r : CheckAnswer} {w v u c d : List ℕ} → Within MUTUAL LOCATED_END w v
    → (Ok r ≡ check_answer (verdict t source)) × (d ≡ cycle_after (verdict t source) c) × Within EDGE LAYERS_END v u → Judges t source r w u c d
judges f h =
    record { answer = h.0; buffer = h.1; frame = within_trans f (within_widen MUTUAL LOCATED_END (omega arith) (omega arith) h.2) }
