-- Inter-thread order for one class set from its nodes: what it is made from, and what is made. Assumes nothing.
use Rattle.std.specs.Prelude.{List, ℕ}
use Rattle.model.specs.Synchronizes.{synchronizes}
use Rattle.model.specs.Table.{Table}
use Rattle.bits.specs.Within.{Within}
use Rattle.work_area.specs.Regions.{SYNC}
use Rattle.model_closing.specs.Nodes.{node}
use Rattle.model_closing.specs.Sets.{reached_at, reached_available, reached_visible}
use Rattle.sets_of_rows.specs.declared.Set.{Set}
use Rattle.sets_of_rows.specs.Member.{in_set}
use Rattle.sets_grids.specs.Regions.{DEPENDS, REACH_AT, REACH_VISIBLE, REACH_AVAILABLE, REACH_END}
use Rattle.sets_grids.specs.Grid.{Grid, GridOn}
use Rattle.sets_grids.specs.Given.{Given}
use Rattle.sets_grids.specs.declared.Concerned.{Concerned}
use Rattle.sets_grids.specs.Concerns.{Told, Concerns}

-- ---- definitions

pub record Asks (t : Table) (n c : ℕ) (ends : Set) (k : Concerned) (s w : List ℕ) : Type 0 where
  pub given : Given t n s w
  pub told : Told t n ends
  pub concerns : Concerns t n c ends k
  pub syncs : Grid SYNC n (synchronizes t) w
  pub depends : Grid DEPENDS n t.depends w

-- of each node the rows, visibility and availability operations that inter-thread order leads to
pub record MadeReach (t : Table) (n c : ℕ) (ends : Set) (w u : List ℕ) : Type 0 where
  pub at : GridOn (node t (in_set ends) c) REACH_AT n (reached_at t c) u
  pub visible : GridOn (node t (in_set ends) c) REACH_VISIBLE n (reached_visible t c) u
  pub available : GridOn (node t (in_set ends) c) REACH_AVAILABLE n (reached_available t c) u
  pub frame : Within REACH_AT REACH_END w u
