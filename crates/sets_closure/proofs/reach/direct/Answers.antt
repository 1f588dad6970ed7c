use Rattle.sets_grids.specs.Given.{given_few}
use Rattle.sets_closure.specs.Reaching.{direct_rows}
use native.Mathlib.Omega.{arith}
use Rattle.sets_closure.proofs.reach.direct.Goals as goal

pub after-after-requires : goal.after-after-requires
after-after-requires c = (c.requires.0, c.requires.1.opened)

pub has-requires : goal.has-requires
has-requires c = let a = given_few c.requires.1 in omega (arith, c.requires.0)

pub get-requires : goal.get-requires
get-requires c = let a = given_few c.requires.1 in let b = c.requires.1.room in omega (arith, c.requires.0)

pub has-requires-2 : goal.has-requires-2
has-requires-2 c =
    let a = given_few c.requires.1 in omega (arith, c.requires.0)

pub has-requires-3 : goal.has-requires-3
has-requires-3 c =
    let a = given_few c.requires.1 in omega (arith, c.requires.0)

pub get-requires-2 : goal.get-requires-2
get-requires-2 c =
    let a = given_few c.requires.1 in let b = c.requires.1.room in omega (arith, c.requires.0)

pub returns : goal.returns
returns c =
    λ d ends q. direct_rows q _ c.requires.0 _ _ _ _ _ _ _ _ _ _ _ _ _ _ _ c.after-after.ensures c.has.ensures c.get.ensures c.bitand.ensures c.only_if-sync.ensures c.has-2.ensures c.bitand-2.ensures c.only_if-releases.ensures c.has-3.ensures c.bitand-3.ensures c.only_if-taking.ensures c.bitor.ensures c.get-2.ensures c.bitor-2.ensures c.bitor-3.ensures
