use mathlib.Core.Path.{◌∙◌}
use native.Mathlib.Omega.{arith}
use Rattle.sets_grids.specs.Given.{given_few}
use Rattle.sets_closure.specs.Reaching.{made_reach, nodes_low}
use Rattle.sets_closure.proofs.reach.fill_reach.Goals as goal

pub put_all_direct-requires : goal.put_all_direct-requires
put_all_direct-requires c = (nodes_low c.requires, c.requires.given)

pub close-requires : goal.close-requires
close-requires c =
    let a = c.requires.given.room in let d = c.put_all_direct.ensures.frame.len in (given_few c.requires.given, omega arith)

pub shape_of-w : goal.shape_of-w
shape_of-w c =
    c.close.ensures.frame.len ∙ c.put_all_direct.ensures.frame.len

pub returns : goal.returns
returns c =
    made_reach c.requires c.put_all_direct.ensures c.close.ensures
