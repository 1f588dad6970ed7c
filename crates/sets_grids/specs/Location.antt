-- Location order by sets: what it is made from, what is made, and what edges, axiom B, races and choices are read from. Assumes nothing.
use Rattle.std.specs.Prelude.{List, ℕ, ◌≤◌}
use Rattle.model.specs.Limits.{ROWS}
use Rattle.model.specs.Edge.{before_nth, before_some}
use Rattle.model.specs.Scope.{mutually, follows}
use Rattle.model.specs.Table.{Table}
use Rattle.bits.specs.Within.{Within}
use Rattle.bits.specs.Cube.{Cube}
use Rattle.work_area.specs.Regions.{MUTUAL, LOCATION, LOCATION_END, PAIRS, PAIR, OVERLAP}
use Rattle.work_area.specs.State.{overlaps, Placed}
use Rattle.sets_grids.specs.Regions.{LATER, HAPPENS, HOSTED, SOME}
use Rattle.sets_grids.specs.Grid.{Grid, grid_holds}
use Rattle.sets_grids.specs.Happens.{happens_rows}
use Rattle.sets_grids.specs.Available.{Available}
use Rattle.sets_grids.specs.Hosted.{hosted_by}
use Rattle.sets_grids.specs.Given.{Given, Fitting, fitting}

-- ---- definitions

-- what location order is made from
pub record Locating (t : Table) (n : ℕ) (w : List ℕ) : Type 0 where
  pub happening : Grid HAPPENS n (happens_rows t) w
  pub available : Available t n w
  pub hosted : Grid HOSTED n (hosted_by t) w
  pub overlapping : Grid OVERLAP n (overlaps t) w

-- the same, with the table and its sets
pub record ToLocate (t : Table) (n : ℕ) (s w : List ℕ) : Type 0 where
  pub given : Given t n s w
  pub locating : Locating t n w

pub record MadeLocation (t : Table) (n : ℕ) (w u : List ℕ) : Type 0 where
  pub some : Grid SOME n (before_some t) u
  pub location : Cube LOCATION PAIRS PAIR n (before_nth t) u
  pub frame : Within SOME LOCATION_END w u

-- what edges, axiom B, races and choices are read from
pub record Judging (t : Table) (n : ℕ) (w : List ℕ) : Type 0 where
  pub mutuals : Grid MUTUAL n (mutually t) w
  pub laters : Grid LATER n (follows t) w
  pub some : Grid SOME n (before_some t) w
  pub location : Cube LOCATION PAIRS PAIR n (before_nth t) w
  pub overlapping : Grid OVERLAP n (overlaps t) w

-- the same, with the table and its sets; with the table alone
pub record ToJudge (t : Table) (n : ℕ) (s w : List ℕ) : Type 0 where
  pub given : Given t n s w
  pub judging : Judging t n w

pub record Judged (t : Table) (n : ℕ) (w : List ℕ) : Type 0 where
  pub fitting : Fitting t n w
  pub judging : Judging t n w

-- ---- laws

pub judged : {t : Table} {n : ℕ} {s w : List ℕ} → ToJudge t n s w → Judged t n w
judged g = record { fitting = fitting g.given; judging = g.judging }

-- in the words of the other engine
pub judging_placed : {t : Table} {n : ℕ} {w : List ℕ} → n ≤ ROWS → Judging t n w → Placed t n w
judging_placed few j = record { mutuals = grid_holds few j.mutuals; location = j.location }
