-- Conflicts and races, and the first race.
use Rattle.std.specs.Prelude.{Bool, not, ℕ, ◌+◌, ltb, eqb}
use Rattle.finite.specs.Logic.{◌and◌, ◌or◌}
use Rattle.finite.specs.Below.{least}
use Rattle.model.specs.declared.Row.{Row}
use Rattle.model.specs.Limits.{LONGEST}
use Rattle.model.specs.Row.{access, writes, overlap}
use Rattle.model.specs.Table.{Table}
use Rattle.model.specs.Scope.{mutually}
use Rattle.model.specs.Location.{common, before}

-- the k-th byte from where row x starts; k goes up to LONGEST, and each test below asks that the byte is one of x's
abbrev pub nth : Table → ℕ → ℕ → ℕ
nth t x k = (t.row x).start + k

-- two accesses share a byte and one writes
unfoldable pub clash : Row → Row → Bool
clash r q = access r and access q and (writes r or writes q) and overlap r q

-- two rows conflict
unfoldable pub conflict : Table → ℕ → ℕ → Bool
conflict t x y = not (eqb x y) and clash (t.row x) (t.row y)

-- b is a byte of both, with no location order either way
unfoldable pub unordered : Table → ℕ → ℕ → ℕ → Bool
unordered t x y b = common (t.row x) (t.row y) b and not (before t x y b) and not (before t y x b)

unfoldable pub unordered_nth : Table → ℕ → ℕ → ℕ → Bool
unordered_nth t x y k = unordered t x y (nth t x k)

-- which of x's bytes is the lowest unordered one; LONGEST where none is
unfoldable pub race_nth : Table → ℕ → ℕ → ℕ
race_nth t x y = least LONGEST (unordered_nth t x y)

-- two rows race
unfoldable pub races : Table → ℕ → ℕ → Bool
races t x y = conflict t x y and not (mutually t x y) and ltb (race_nth t x y) LONGEST

-- ---- the first race: the lower row, the higher, the byte; the number of rows where there is none

unfoldable pub races_above : Table → ℕ → ℕ → Bool
races_above t x y = ltb x y and races t x y

unfoldable pub race_partner : Table → ℕ → ℕ
race_partner t x = least t.rows (races_above t x)

unfoldable pub has_race : Table → ℕ → Bool
has_race t x = ltb (race_partner t x) t.rows

unfoldable pub race_row : Table → ℕ
race_row t = least t.rows (has_race t)

unfoldable pub race_byte : Table → ℕ → ℕ → ℕ
race_byte t x y = nth t x (race_nth t x y)
