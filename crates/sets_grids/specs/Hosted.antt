-- L4 and L5 of accesses. Assumes nothing.
use Rattle.std.specs.Prelude.{Bool, ℕ}
use Rattle.finite.specs.Logic.{◌and◌, ◌or◌}
use Rattle.model.specs.Row.{access}
use Rattle.model.specs.Location.{L4, L5}
use Rattle.model.specs.Table.{Table}

unfoldable pub hosted_by : Table → ℕ → ℕ → Bool
hosted_by t x y = access (t.row x) and (L4 t x y or L5 t x y)
