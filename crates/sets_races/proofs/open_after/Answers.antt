use Rattle.model.specs.Table.{decode}
use Rattle.sets_grids.specs.Given.{given_few}
use Rattle.sets_races.specs.Pair.{open_rows}
use native.Mathlib.Omega.{arith}
use Rattle.sets_races.proofs.open_after.Goals as goal

pub get-requires : goal.get-requires
get-requires c =
    let given = c.requires.1.given in
    let few = given_few given in
    omega (arith, given.room, c.requires.0.low)

pub returns : goal.returns
unfolding decode
returns c =
    let pre = c.requires in
    open_rows pre.1.given pre.1.judging pre.0.low pre.0.is c.conflicting.ensures c.get.ensures c.sub.ensures
