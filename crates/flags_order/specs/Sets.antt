-- M7 cut off at some of the class sets, and the stages that add one. Assumes nothing.
use Rattle.std.specs.Prelude.{◌≡◌, refl, Bool, true, false, List, ℕ, ◌+◌, ◌-◌, ◌*◌, ◌≤◌, ◌<◌, length}
use Rattle.std.proofs.Common.{sym, arith}
use Rattle.std.proofs.Math.Numerals.{add-one}
use Rattle.finite.specs.Logic.{◌or◌, or_off, or_assoc, and_false_left, and_on}
use Rattle.finite.specs.Below.{any_below}
use Rattle.finite.specs.Closure.{through}
use Rattle.bits.specs.Bit.{join_row}
use Rattle.bits.specs.Within.{Within, within_trans, within_widen}
use Rattle.bits.specs.Matrix.{Closed}
use Rattle.bits.specs.Stage.{Holds, Made, Added, holds_cong, added_chain, added_none}
use Rattle.model.specs.Limits.{ROWS, WORK, CLASS_SETS}
use Rattle.model.specs.Table.{Mode, Table, decode}
use Rattle.model.specs.Moment.{program_order}
use Rattle.model.specs.Happens.{step, inter_thread, happens}
use Rattle.model_laws.specs.HappensLaws.{live, live_by, happens_live}
use Rattle.work_area.specs.Regions.{MUTUAL, HAPPENS, HAPPENS_END, STEP, STEP_END, MOMENTS}
use Rattle.work_area.specs.State.{MadeOrdered}
use Rattle.work_area.specs.Synced.{Synced, MadeSynced}

-- ---- definitions

-- inter-thread order for class set s + 1, if it is asked
unfoldable pub inter_by : Table → ℕ → ℕ → ℕ → Bool
inter_by t s m k = live_by t m k s

-- happens-before by the first c class sets
unfoldable pub up_to : Table → ℕ → ℕ → ℕ → Bool
up_to t c m k = program_order t m k or any_below c (live_by t m k)

-- ---- laws: relations

pub up_to_none : (t : Table) (m k : ℕ) → program_order t m k ≡ up_to t 0 m k
unfolding up_to any_below
up_to_none t m k = sym (or_off _ _ refl)

pub up_to_more : (t : Table) (c m k : ℕ) → (up_to t c m k or inter_by t c m k) ≡ up_to t (c + 1) m k
unfolding up_to inter_by any_below
up_to_more t c m k = rw add-one (or_assoc _ _ _)

up_to_all : (t : Table) (m k : ℕ) → m < 3 * t.rows → k < 3 * t.rows → up_to t CLASS_SETS m k ≡ happens t m k
unfolding up_to
up_to_all t m k p q = happens_live t m k p q

module _ (b : List ℕ) (p : List (List ℕ)) (mode : Mode) (n : ℕ) where
  -- a class set that is asked, and one that is not
  inter_on : (s m k : ℕ) → live (decode b p mode n) (s + 1) ≡ true
      → through (step (decode b p mode n) (s + 1)) (3 * n) m k ≡ inter_by (decode b p mode n) s m k
  unfolding inter_by live_by inter_thread decode
  inter_on s m k l = rw add-one (sym (and_on _ _ (rw add-one at l)))

  inter_off : (s m k : ℕ) → live (decode b p mode n) (s + 1) ≡ false → inter_by (decode b p mode n) s m k ≡ false
  unfolding inter_by live_by
  inter_off s m k l = and_false_left _ _ (rw add-one at l)

  -- ---- laws: stages

  -- the steps of a class set are made, closed, and joined to happens-before
  pub added_set : (s : ℕ) (w v x u : List ℕ) → n ≤ ROWS → WORK ≤ length w → live (decode b p mode n) (s + 1) ≡ true
      → Made STEP STEP_END STEP MOMENTS (3 * n) (step (decode b p mode n) (s + 1)) w v → Closed v x STEP (3 * n) MOMENTS
      → u ≡ join_row x HAPPENS STEP (HAPPENS_END - HAPPENS)
      → Added HAPPENS STEP_END HAPPENS MOMENTS (3 * n) (inter_by (decode b p mode n) s) w u
  added_set s w v x u small room alive made closed joined =
      let a = added_chain HAPPENS STEP_END STEP HAPPENS (HAPPENS_END - HAPPENS) MOMENTS (3 * n) _ w v x u (omega arith) (λ h. omega arith) (omega arith)
      (omega arith, omega arith, omega arith, omega arith) made closed joined
      in
      record { cell = λ i j q r. rw (← inter_on s i j alive) (a.cell i j q r); frame = a.frame }

  -- no row holds all of the class set: nothing is to be added
  pub added_not : (s : ℕ) (w : List ℕ) → live (decode b p mode n) (s + 1) ≡ false
      → Added HAPPENS STEP_END HAPPENS MOMENTS (3 * n) (inter_by (decode b p mode n) s) w w
  added_not s w l = added_none HAPPENS STEP_END w (λ i j q r. inter_off s i j l)

-- all stages in order, the class sets from x on
pub ordered_made : {t : Table} {n : ℕ} {w v x u : List ℕ} → MadeSynced t n w v
    → Made HAPPENS HAPPENS_END HAPPENS MOMENTS (3 * n) (program_order t) v x → Synced t n u
    → Holds HAPPENS MOMENTS (3 * n) (up_to t CLASS_SETS) u → Within HAPPENS STEP_END x u → t.rows ≡ n → MadeOrdered t n w u
ordered_made {t} synced program kept closed frame e =
    record {
      ordered = record { mutuals = kept.mutuals; happening = holds_cong (λ i j p q. up_to_all t i j (rw e p) (rw e q)) closed };
      frame = within_trans (within_widen MUTUAL STEP_END (omega arith) (omega arith) synced.frame)
          (within_trans (within_widen MUTUAL STEP_END (omega arith) (omega arith) program.frame)
          (within_widen MUTUAL STEP_END (omega arith) (omega arith) frame));
    }
