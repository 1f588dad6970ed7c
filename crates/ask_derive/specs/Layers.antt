-- The layers of the search for a chain: layer k is the moments from which k steps for a class set lead to the last one. Assumes nothing.
use Rattle.std.specs.Prelude.{◌≡◌, true, List, ℕ, ◌+◌, ◌*◌, ◌≤◌, ◌<◌, length}
use Rattle.std.proofs.Common.{arith}
use Rattle.finite.specs.Walk.{walk}
use Rattle.bits.specs.Matrix.{rel}
use Rattle.bits.specs.Within.{Within, within_trans, within_widen}
use Rattle.bits.specs.Stage.{Holds, Made, holds_kept}
use Rattle.model.specs.Limits.{ROWS, WORK, STEPS}
use Rattle.model.specs.Table.{Table}
use Rattle.model.specs.Happens.{step}
use Rattle.work_area.specs.Regions.{HAPPENS, STEP, STEP_END, CHAINS, CHAINS_END, MOMENTS}
use Rattle.work_walks.specs.Layers.{Layers}

-- the steps for the class set s, and the layers of chains of them to x
pub record Layered (t : Table) (n s x : ℕ) (w : List ℕ) : Type 0 where
  pub steps : Holds STEP MOMENTS (3 * n) (step t s) w
  pub layers : Layers STEP CHAINS MOMENTS (3 * n) x w

pub record MadeLayered (t : Table) (n s x : ℕ) (w u : List ℕ) : Type 0 where
  pub layered : Layered t n s x u
  pub frame : Within HAPPENS CHAINS_END w u

-- moments m and k of n rows, not the same, of which m is to come before k
pub record Asked (n m k : ℕ) : Type 0 where
  pub few : n ≤ ROWS
  pub from : m < 3 * n
  pub to : k < 3 * n
  pub apart : m ≡ k → ⊥

-- a chain of `size` steps leads from m to k, and the area holds the layers of chains to k
pub record Leading (n m k size : ℕ) (w : List ℕ) : Type 0 where
  pub room : WORK ≤ length w
  pub from : m < 3 * n
  pub few : size ≤ STEPS
  pub short : size ≤ 3 * n
  pub layers : Layers STEP CHAINS MOMENTS (3 * n) k w
  pub leads : walk (3 * n) (rel w STEP MOMENTS) k size m ≡ true

-- the steps were made, and the layers filled from them
pub made_layered : {t : Table} {n s x : ℕ} {w v u : List ℕ} → n ≤ ROWS → Made STEP STEP_END STEP MOMENTS (3 * n) (step t s) w v
    → Layers STEP CHAINS MOMENTS (3 * n) x u × Within CHAINS (CHAINS + 3 * n * MOMENTS + MOMENTS) v u → MadeLayered t n s x w u
made_layered few made filled =
    record {
      layered = record { steps = holds_kept (λ h. absurd (omega arith)) filled.1 made.holds; layers = filled.0 };
      frame = within_trans (within_widen HAPPENS CHAINS_END (omega arith) (omega arith) made.frame)
          (within_widen HAPPENS CHAINS_END (omega arith) (omega arith) filled.1);
    }
