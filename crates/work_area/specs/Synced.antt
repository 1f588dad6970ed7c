-- What the work area holds between the stages that make synchronizes-with, and after them, whichever engine's. Assumes nothing.
use Rattle.std.specs.Prelude.{List, ℕ, ◌*◌, ◌≤◌}
use Rattle.std.proofs.Common.{arith}
use Rattle.bits.specs.Within.{Within, within_trans, within_widen}
use Rattle.bits.specs.Stage.{Holds, Made, holds_kept}
use Rattle.model.specs.Table.{Table}
use Rattle.model.specs.Scope.{mutually}
use Rattle.model.specs.Synchronizes.{sequence, synchronizes}
use Rattle.work_area.specs.Regions.{MUTUAL, MUTUAL_END, SEQUENCE, SEQUENCE_END, SYNC, SYNC_END, GRID}

-- ---- definitions

-- what synchronizes-with is made from: mutually-ordered rows, and release sequences
pub record Sequenced (t : Table) (n : ℕ) (w : List ℕ) : Type 0 where
  pub mutuals : Holds MUTUAL GRID n (mutually t) w
  pub sequences : Holds SEQUENCE GRID n (sequence t) w

-- what happens-before is made from, and what later stages read
pub record Synced (t : Table) (n : ℕ) (w : List ℕ) : Type 0 where
  pub mutuals : Holds MUTUAL GRID n (mutually t) w
  pub syncs : Holds SYNC GRID n (synchronizes t) w

-- what a stage that makes the second says: no word outside the regions that it works in changed
pub record MadeSynced (t : Table) (n : ℕ) (w u : List ℕ) : Type 0 where
  pub synced : Synced t n u
  pub frame : Within MUTUAL SYNC_END w u

-- ---- laws: a change in later words keeps each

pub sequenced_kept : {t : Table} {n c d : ℕ} {w u : List ℕ} → SEQUENCE_END ≤ c → Within c d w u → Sequenced t n w → Sequenced t n u
sequenced_kept {n = n} l f k =
    let h : n ≤ 64 * GRID = k.mutuals.fits in
    record { mutuals = holds_kept (λ h. absurd (omega arith)) f k.mutuals; sequences = holds_kept (λ h. absurd (omega arith)) f k.sequences }

pub synced_kept : {t : Table} {n c d : ℕ} {w u : List ℕ} → SYNC_END ≤ c → Within c d w u → Synced t n w → Synced t n u
synced_kept {n = n} l f k =
    let h : n ≤ 64 * GRID = k.mutuals.fits in
    record { mutuals = holds_kept (λ h. absurd (omega arith)) f k.mutuals; syncs = holds_kept (λ h. absurd (omega arith)) f k.syncs }

-- ---- laws: the stages in order

pub sequenced_made : {t : Table} {n : ℕ} {w v x : List ℕ} → Made MUTUAL MUTUAL_END MUTUAL GRID n (mutually t) w v
    → Made SEQUENCE SEQUENCE_END SEQUENCE GRID n (sequence t) v x → Sequenced t n x
sequenced_made {n = n} m s =
    let h : n ≤ 64 * GRID = m.holds.fits in
    record { mutuals = holds_kept (λ h. absurd (omega arith)) s.frame m.holds; sequences = s.holds }

pub synced_made : {t : Table} {n : ℕ} {w v x u : List ℕ} → Made MUTUAL MUTUAL_END MUTUAL GRID n (mutually t) w v
    → Made SEQUENCE SEQUENCE_END SEQUENCE GRID n (sequence t) v x → Made SYNC SYNC_END SYNC GRID n (synchronizes t) x u → MadeSynced t n w u
synced_made m s y =
    record {
      synced = record { mutuals = (sequenced_kept (omega arith) y.frame (sequenced_made m s)).mutuals; syncs = y.holds };
      frame = within_trans (within_widen MUTUAL SYNC_END (omega arith) (omega arith) m.frame)
          (within_trans (within_widen MUTUAL SYNC_END (omega arith) (omega arith) s.frame)
          (within_widen MUTUAL SYNC_END (omega arith) (omega arith) y.frame));
    }
