-- What the work area holds between the crates of the engine. Assumes nothing.
use Rattle.std.specs.Prelude.{Bool, List, ℕ, ◌*◌, ◌≤◌}
use Rattle.std.proofs.Common.{arith}
use Rattle.bits.specs.Within.{Within}
use Rattle.bits.specs.Stage.{Holds, holds_kept}
use Rattle.bits.specs.Cube.{Cube, cube_kept}
use Rattle.model.specs.Row.{overlap}
use Rattle.model.specs.Table.{Table}
use Rattle.model.specs.Scope.{mutually}
use Rattle.model.specs.Happens.{happens}
use Rattle.model.specs.Edge.{before_nth}
use Rattle.work_area.specs.Regions.{MUTUAL, HAPPENS, HAPPENS_END, STEP_END, LOCATION, LOCATION_END, LOCATED_END, GRID, MOMENTS, PAIR, PAIRS}

-- ---- definitions

-- what location order is made from: mutually-ordered rows, and happens-before
pub record Ordered (t : Table) (n : ℕ) (w : List ℕ) : Type 0 where
  pub mutuals : Holds MUTUAL GRID n (mutually t) w
  pub happening : Holds HAPPENS MOMENTS (3 * n) (happens t) w

-- what location order is: mutually-ordered rows, and the bits of each pair; bit k of a pair is the first row's k-th byte
pub record Placed (t : Table) (n : ℕ) (w : List ℕ) : Type 0 where
  pub mutuals : Holds MUTUAL GRID n (mutually t) w
  pub location : Cube LOCATION PAIRS PAIR n (before_nth t) w

-- rows x and y share a byte
unfoldable pub overlaps : Table → ℕ → ℕ → Bool
overlaps t x y = overlap (t.row x) (t.row y)

-- what a stage that makes each of these says: no word outside the regions that it works in changed
pub record MadeOrdered (t : Table) (n : ℕ) (w u : List ℕ) : Type 0 where
  pub ordered : Ordered t n u
  pub frame : Within MUTUAL STEP_END w u

pub record MadePlaced (t : Table) (n : ℕ) (w u : List ℕ) : Type 0 where
  pub placed : Placed t n u
  pub frame : Within LOCATION LOCATED_END w u

-- ---- laws: a change in later words, or between what it holds, keeps each

pub ordered_kept : {t : Table} {n c d : ℕ} {w u : List ℕ} → HAPPENS_END ≤ c → Within c d w u → Ordered t n w → Ordered t n u
ordered_kept {n = n} l f o =
    let h : 3 * n ≤ 64 * MOMENTS = o.happening.fits in
    record { mutuals = holds_kept (λ h. absurd (omega arith)) f o.mutuals; happening = holds_kept (λ h. absurd (omega arith)) f o.happening }

pub placed_kept : {t : Table} {n c d : ℕ} {w u : List ℕ} → LOCATION_END ≤ c → Within c d w u → Placed t n w → Placed t n u
placed_kept {n = n} l f o =
    let h : n ≤ 64 * GRID = o.mutuals.fits in
    record { mutuals = holds_kept (λ h. absurd (omega arith)) f o.mutuals; location = cube_kept (λ h. absurd (omega arith)) f o.location }
