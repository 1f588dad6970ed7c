-- What a class set concerns, as sets of rows. Assumes nothing.
use Rattle.std.specs.Prelude.{◌≡◌, true, ℕ, ◌<◌}
use Rattle.model.specs.Table.{Table}
use Rattle.model_closing.specs.Nodes.{releaser, acquirer, node}
use Rattle.model_closing.specs.Direct.{takes_part, available_for, visible_for}
use Rattle.sets_of_rows.specs.declared.Set.{Set}
use Rattle.sets_of_rows.specs.Member.{in_set}
use Rattle.sets_of_rows.specs.Rows.{Rows}
use Rattle.sets_grids.specs.declared.Concerned.{Concerned}

-- the class set that concerns no row: no row has the class that it has
abbrev pub NONE : ℕ
NONE = 16

-- the ends of all dependencies are members, and members are rows
pub record Told (t : Table) (n : ℕ) (ends : Set) : Type 0 where
  pub told : (a b : ℕ) → t.depends a b ≡ true → (in_set ends a ≡ true) × (in_set ends b ≡ true)
  pub rows : (j : ℕ) → in_set ends j ≡ true → j < n

-- k is what the class set c concerns
pub record Concerns (t : Table) (n c : ℕ) (ends : Set) (k : Concerned) : Type 0 where
  pub nodes : Rows n (node t (in_set ends) c) k.nodes
  pub releases : Rows n (releaser t c) k.releases
  pub acquires : Rows n (acquirer t c) k.acquires
  pub at : Rows n (takes_part t c) k.at
  pub available : Rows n (available_for t c) k.available
  pub visible : Rows n (visible_for t c) k.visible
