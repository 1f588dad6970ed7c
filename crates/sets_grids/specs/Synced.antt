-- The relations that synchronizes-with is made of, beside the model's own. Assumes nothing.
use Rattle.std.specs.Prelude.{Bool, ℕ}
use Rattle.finite.specs.Logic.{◌and◌, ◌or◌}
use Rattle.finite.specs.Below.{any_below}
use Rattle.model.specs.Row.{acquires, barrier, ranked}
use Rattle.model.specs.Synchronizes.{sequence, takes_from, carries_in, passes}
use Rattle.model.specs.Table.{Table}

-- y is an atomic writer, and x is in the sequence that it heads
unfoldable pub headed_by : Table → ℕ → ℕ → Bool
headed_by t x y = ranked (t.row y) and sequence t y x

-- b is an acquire row that gets what is read from the sequence that x heads
unfoldable pub taken_by : Table → ℕ → ℕ → Bool
taken_by t x b = acquires (t.row b) and (takes_from t x b or (barrier (t.row b) and any_below t.rows (carries_in t x b)))

-- b is a barrier that the barrier a passes to, by way of some control barrier
unfoldable pub passed_by : Table → ℕ → ℕ → Bool
passed_by t a b = barrier (t.row a) and barrier (t.row b) and any_below t.rows (passes t a b)
