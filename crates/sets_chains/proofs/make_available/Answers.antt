use mathlib.Core.Path.{◌∙◌}
use Rattle.sets_grids.specs.Grid.{grid_at}
use Rattle.sets_grids.specs.Given.{given_few}
use Rattle.sets_chains.specs.Alone.{alone_to, alone_by, made_one}
use native.Mathlib.Omega.{arith}
use Rattle.sets_chains.proofs.make_available.Goals as goal

pub reach-reach-requires : goal.reach-reach-requires
reach-reach-requires c = (c.requires.0.low, c.requires.1.given.opened)

pub hears-requires : goal.hears-requires
hears-requires c = (c.requires.0.low, c.requires.1.given.opened)

pub get-requires : goal.get-requires
get-requires c =
    omega (arith, c.requires.0.low, given_few c.requires.1.given, c.requires.1.given.room)

pub get-requires-2 : goal.get-requires-2
get-requires-2 c =
    omega (arith, c.requires.0.low, given_few c.requires.1.given, c.requires.1.given.room)

pub put-requires : goal.put-requires
put-requires c =
    omega (arith, c.requires.0.low, given_few c.requires.1.given, c.requires.1.given.room)

pub put-requires-2 : goal.put-requires-2
put-requires-2 c =
    omega (arith, c.requires.0.low, given_few c.requires.1.given, c.requires.1.given.room, c.put.ensures.frame.len)

pub shape_of-w : goal.shape_of-w
shape_of-w c =
    c.put-2.ensures.frame.len ∙ c.put.ensures.frame.len

pub returns : goal.returns
returns c =
    let o = c.requires.1.given.opened in
    let f = given_few c.requires.1.given in
    made_one (omega (arith, c.requires.0.low, f))
    (alone_to _ _ o c.requires.0.low c.requires.0.makes c.requires.1.device (grid_at c.requires.1.after.rows c.requires.0.low c.get.ensures) c.reach-reach.ensures c.bitand-at.ensures)
    (alone_by _ _ o c.requires.0.low c.requires.0.makes c.requires.1.device _ (grid_at c.requires.1.after.visibles c.requires.0.low c.get-2.ensures) c.reach-reach.ensures c.hears.ensures c.bitand-both.ensures c.bitand-visible.ensures)
    c.put.ensures c.put-2.ensures
