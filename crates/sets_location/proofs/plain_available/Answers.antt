use Rattle.sets_of_table.specs.Ask.{few}
use Rattle.sets_location.specs.Told.{first_set}
use native.Mathlib.Omega.{arith}
use Rattle.sets_location.proofs.plain_available.Goals as goal

pub rows-requires : goal.rows-requires
rows-requires c = let r = c.requires.1.given.opened.space in omega (arith, r)

pub rows-requires-2 : goal.rows-requires-2
rows-requires-2 c = let r = c.requires.1.given.opened.space in omega (arith, r)

pub get-requires : goal.get-requires
get-requires c =
    let b = few c.requires.1.given.opened in let r = c.requires.1.given.opened.space in omega (arith, c.requires.0.low, b, r)

pub get-requires-2 : goal.get-requires-2
get-requires-2 c =
    let b = few c.requires.1.given.opened in let r = c.requires.1.given.room in omega (arith, c.requires.0.low, b, r)

pub onward-requires : goal.onward-requires
onward-requires c =
    (c.requires.0.low, c.requires.1.given.opened)

pub returns : goal.returns
returns c =
    first_set c.requires.1.given.opened c.requires.1.locating _ c.requires.0.low c.requires.0.is _ _ _ _ _ _ _ _ _ c.rows.ensures c.rows-2.ensures c.bitand-plain.ensures c.get.ensures c.get-2.ensures c.bitand-here.ensures c.bitand.ensures c.onward.ensures c.bitand-2.ensures
