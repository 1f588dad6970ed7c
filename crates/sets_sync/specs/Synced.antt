-- What M3 to M5 leave. Assumes nothing.
use Rattle.std.specs.Prelude.{List, ℕ, ◌≤◌}
use Rattle.std.proofs.Common.{arith}
use Rattle.model.specs.Limits.{ROWS}
use Rattle.model.specs.Scope.{mutually, follows}
use Rattle.model.specs.Synchronizes.{synchronizes}
use Rattle.model.specs.Table.{Table}
use Rattle.bits.specs.Within.{Within, within_trans, within_widen}
use Rattle.work_area.specs.Regions.{MUTUAL, MUTUAL_END, SYNC, SYNC_END}
use Rattle.sets_grids.specs.Regions.{LATER, LATER_END, HEADS, HEADS_END, TAKEN, TAKEN_END, PASSED, PASSED_END}
use Rattle.sets_grids.specs.Grid.{Grid, MadeGrid, grid_kept}
use Rattle.sets_grids.specs.Synced.{headed_by, taken_by, passed_by}

-- ---- definitions

-- mutually-ordered rows, what follows each writer, and synchronizes-with; the rest is scratch
pub record Synced (t : Table) (n : ℕ) (w u : List ℕ) : Type 0 where
  pub mutuals : Grid MUTUAL n (mutually t) u
  pub laters : Grid LATER n (follows t) u
  pub syncs : Grid SYNC n (synchronizes t) u
  pub frame : Within MUTUAL PASSED_END w u

-- ---- laws: the stages in order

module _ (t : Table) {n : ℕ} (few : n ≤ ROWS) {a b c d e f g : List ℕ} (m : MadeGrid MUTUAL MUTUAL_END MUTUAL n (mutually t) a b) (l : MadeGrid LATER LATER_END LATER n (follows t) b c)
    (h : MadeGrid HEADS HEADS_END HEADS n (headed_by t) c d) (k : MadeGrid TAKEN TAKEN_END TAKEN n (taken_by t) d e) (p : MadeGrid PASSED PASSED_END PASSED n (passed_by t) e f)
    (s : MadeGrid SYNC SYNC_END SYNC n (synchronizes t) f g) where
  wide : {x y : ℕ} {u v : List ℕ} → MUTUAL ≤ x → y ≤ PASSED_END → Within x y u v → Within MUTUAL PASSED_END u v
  wide o q i = within_widen MUTUAL PASSED_END o q i

  pub synced : Synced t n a g
  synced =
      record {
        mutuals =
            grid_kept (λ o. absurd (omega arith)) s.frame (grid_kept (λ o. absurd (omega arith)) p.frame (grid_kept (λ o. absurd (omega arith)) k.frame
            (grid_kept (λ o. absurd (omega arith)) h.frame (grid_kept (λ o. absurd (omega arith)) l.frame m.grid))));
        laters =
            grid_kept (λ o. absurd (omega arith)) s.frame (grid_kept (λ o. absurd (omega arith)) p.frame (grid_kept (λ o. absurd (omega arith)) k.frame
            (grid_kept (λ o. absurd (omega arith)) h.frame l.grid)));
        syncs = s.grid;
        frame =
            within_trans (wide (omega arith) (omega arith) m.frame) (within_trans (wide (omega arith) (omega arith) l.frame) (within_trans (wide (omega arith) (omega arith) h.frame)
            (within_trans (wide (omega arith) (omega arith) k.frame) (within_trans (wide (omega arith) (omega arith) p.frame) (wide (omega arith) (omega arith) s.frame)))));
      }
