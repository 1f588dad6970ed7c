-- What a search for a race says: it stopped at the bound, or found one. Assumes nothing.
use Rattle.std.specs.Prelude.{◌≡◌, false, ltb}
use Rattle.std.proofs.Common.{arith, ltb-false}
use Rattle.finite.specs.Below.{least, least_is}
use Rattle.model.specs.Table.{Table}
use Rattle.model.specs.Race.{has_race, race_row}
use Rattle.model_laws.specs.RaceLaws.{Sized, race_none}
use Rattle.model_laws.specs.ChoiceLaws.{NoRace}

-- a search that found nothing below the bound stopped at it
pub stuck : (t : Table) → ltb (race_row t) t.rows ≡ false → race_row t ≡ t.rows
unfolding race_row
stuck t e = let l = ltb-false (least t.rows (has_race t)) t.rows e in let m = (least_is (has_race t) t.rows).bound in omega arith

-- and so no pair races
pub free_of : (t : Table) → Sized t → ltb (race_row t) t.rows ≡ false → NoRace t
free_of t sized e = (race_none t sized).0 (stuck t e)
