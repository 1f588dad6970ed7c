-- What the engine by sets leaves, stage after stage. Assumes nothing.
use Rattle.std.specs.Prelude.{refl, List, ℕ, ◌≤◌, length}
use Rattle.std.proofs.Common.{arith}
use Rattle.model.specs.Scope.{mutually, follows}
use Rattle.model.specs.Location.{system_before}
use Rattle.model.specs.Limits.{ROWS, WORK}
use Rattle.model.specs.Table.{Table, decode}
use Rattle.run.specs.Layout.{table_in}
use Rattle.bits.specs.Within.{Within, within_trans, within_widen}
use Rattle.work_area.specs.Regions.{MUTUAL, OVERLAP, OVERLAP_END, LOCATED_END}
use Rattle.work_area.specs.State.{overlaps}
use Rattle.sets_of_table.specs.Fit.{FitRun}
use Rattle.sets_of_table.specs.Known.{WORDS, Opened, MadeKnown}
use Rattle.sets_grids.specs.Given.{Given}
use Rattle.sets_grids.specs.Regions.{LATER, SYSTEM, SYSTEM_END, HOSTED, MET_END}
use Rattle.sets_grids.specs.Grid.{Grid, MadeGrid, grid_kept, grid_on_kept}
use Rattle.sets_grids.specs.Happens.{Happening}
use Rattle.sets_grids.specs.Available.{MadeAvailable}
use Rattle.sets_grids.specs.Hosted.{hosted_by}
use Rattle.sets_grids.specs.Location.{Locating, MadeLocation, Judging}
use Rattle.sets_sync.specs.Synced.{Synced}
use Rattle.sets_order.specs.Order.{MadeOrder}

-- ---- definitions

-- what is mutually-ordered, what follows in scoped modification order, happens-before and the closure of dependencies
pub record Ordered (t : Table) (n : ℕ) (w : List ℕ) : Type 0 where
  pub mutuals : Grid MUTUAL n (mutually t) w
  pub laters : Grid LATER n (follows t) w
  pub happening : Happening t n w
  pub system : Grid SYSTEM n (system_before t) w

pub record MadeOrdered (t : Table) (n : ℕ) (w u : List ℕ) : Type 0 where
  pub ordered : Ordered t n u
  pub frame : Within MUTUAL SYSTEM_END w u

-- the first two, and what location order is made from
pub record Placing (t : Table) (n : ℕ) (w : List ℕ) : Type 0 where
  pub mutuals : Grid MUTUAL n (mutually t) w
  pub laters : Grid LATER n (follows t) w
  pub locating : Locating t n w

pub record MadePlacing (t : Table) (n : ℕ) (w u : List ℕ) : Type 0 where
  pub placing : Placing t n u
  pub frame : Within MUTUAL LOCATED_END w u

-- after all stages
pub record MadeJudging (t : Table) (n : ℕ) (s w u : List ℕ) : Type 0 where
  pub opened : Opened t n s
  pub judging : Judging t n u
  pub frame : Within MUTUAL LOCATED_END w u

-- ---- laws: the stages in order

-- a run that fits, its sets, and room
pub given_of : {t : List ℕ} {n : ℕ} {s u w : List ℕ} → FitRun t n → MadeKnown (table_in t n) n s u → WORDS ≤ length s → WORK ≤ length w → Given (table_in t n) n u w
unfolding decode
given_of {s = s} {u} fits made space room =
    record { opened = record { fit = fits.fit; rows = refl; known = made.known; space = let e = made.frame.len in omega arith }; room = room }

pub ordered : {t : Table} {n : ℕ} {w v u : List ℕ} → n ≤ ROWS → Synced t n w v → MadeOrder t n v u → MadeOrdered t n w u
ordered few s o =
    record {
      ordered = record {
        mutuals = grid_kept (λ h. absurd (omega arith)) o.frame s.mutuals;
        laters = grid_kept (λ h. absurd (omega arith)) o.frame s.laters;
        happening = o.happening;
        system = o.system;
      };
      frame = within_trans (within_widen MUTUAL SYSTEM_END (omega arith) (omega arith) s.frame) (within_widen MUTUAL SYSTEM_END (omega arith) (omega arith) o.frame);
    }

pub placing : {t : Table} {n : ℕ} {w v u z : List ℕ} → n ≤ ROWS → Ordered t n w → MadeAvailable t n w v → MadeGrid HOSTED MET_END HOSTED n (hosted_by t) v u
    → MadeGrid OVERLAP OVERLAP_END OVERLAP n (overlaps t) u z → MadePlacing t n w z
placing few o a h p =
    record {
      placing = record {
        mutuals = grid_kept (λ h. absurd (omega arith)) p.frame (grid_kept (λ h. absurd (omega arith)) h.frame (grid_kept (λ h. absurd (omega arith)) a.frame o.mutuals));
        laters = grid_kept (λ h. absurd (omega arith)) p.frame (grid_kept (λ h. absurd (omega arith)) h.frame (grid_kept (λ h. absurd (omega arith)) a.frame o.laters));
        locating = record {
          happening = grid_kept (λ h. absurd (omega arith)) p.frame (grid_kept (λ h. absurd (omega arith)) h.frame (grid_kept (λ h. absurd (omega arith)) a.frame o.happening.rows));
          available = record {
            to = grid_on_kept (λ h. absurd (omega arith)) p.frame (grid_on_kept (λ h. absurd (omega arith)) h.frame a.available.to);
            by = grid_on_kept (λ h. absurd (omega arith)) p.frame (grid_on_kept (λ h. absurd (omega arith)) h.frame a.available.by);
          };
          hosted = grid_kept (λ h. absurd (omega arith)) p.frame h.grid;
          overlapping = p.grid;
        };
      };
      frame = within_trans (within_widen MUTUAL LOCATED_END (omega arith) (omega arith) a.frame)
          (within_trans (within_widen MUTUAL LOCATED_END (omega arith) (omega arith) h.frame) (within_widen MUTUAL LOCATED_END (omega arith) (omega arith) p.frame));
    }

pub judging : {t : Table} {n : ℕ} {s w v u z : List ℕ} → n ≤ ROWS → Opened t n s → MadeOrdered t n w v → MadePlacing t n v u → MadeLocation t n u z → MadeJudging t n s w z
judging few opened o p m =
    record {
      opened = opened;
      judging = record {
        mutuals = grid_kept (λ h. absurd (omega arith)) m.frame p.placing.mutuals;
        laters = grid_kept (λ h. absurd (omega arith)) m.frame p.placing.laters;
        some = m.some;
        location = m.location;
        overlapping = grid_kept (λ h. omega arith) m.frame p.placing.locating.overlapping;
      };
      frame = within_trans (within_widen MUTUAL LOCATED_END (omega arith) (omega arith) o.frame)
          (within_trans p.frame (within_widen MUTUAL LOCATED_END (omega arith) (omega arith) m.frame));
    }
