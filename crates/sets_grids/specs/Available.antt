-- What each availability operation makes available, as grids. Assumes nothing.
use Rattle.std.specs.Prelude.{Bool, List, ℕ}
use Rattle.finite.specs.Logic.{◌and◌}
use Rattle.model.specs.Table.{Table}
use Rattle.bits.specs.Within.{Within}
use Rattle.model_placing.specs.Leads.{meets, shows}
use Rattle.model_placing.specs.Elements.{avails, shews}
use Rattle.sets_grids.specs.Regions.{AVAILABLE_AVAILABLE, AVAILABLE_TO, VISIBLE_BY, VISIBLE_BY_END}
use Rattle.sets_grids.specs.Grid.{GridOn}

-- ---- definitions

-- row a performs an availability operation
unfoldable pub makes : Table → ℕ → Bool
makes t a = avails (t.row a)

-- row v performs a visibility operation that shows what a makes available
unfoldable pub shown_to : Table → ℕ → ℕ → Bool
shown_to t a v = shews (t.row v) and shows t a v

pub record Available (t : Table) (n : ℕ) (w : List ℕ) : Type 0 where
  pub to : GridOn (makes t) AVAILABLE_TO n (meets t) w
  pub by : GridOn (makes t) VISIBLE_BY n (shown_to t) w

pub record MadeAvailable (t : Table) (n : ℕ) (w u : List ℕ) : Type 0 where
  pub available : Available t n u
  pub frame : Within AVAILABLE_AVAILABLE VISIBLE_BY_END w u
