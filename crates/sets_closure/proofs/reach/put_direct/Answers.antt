use mathlib.Core.Path.{◌∙◌}
use Rattle.sets_grids.specs.Given.{given_few}
use Rattle.sets_closure.specs.Reaching.{own_rows, put_direct_is}
use native.Mathlib.Omega.{arith}
use Rattle.sets_closure.proofs.reach.put_direct.Goals as goal

pub direct-to-requires : goal.direct-to-requires
direct-to-requires c = c.requires

pub has-acquires-requires : goal.has-acquires-requires
has-acquires-requires c = let a = given_few c.requires.1 in omega (arith, c.requires.0)

pub onward-onward-requires : goal.onward-onward-requires
onward-onward-requires c =
    (c.requires.0, c.requires.1.opened)

pub after-after-requires : goal.after-after-requires
after-after-requires c =
    (c.requires.0, c.requires.1.opened)

pub put-requires : goal.put-requires
put-requires c =
    let a = given_few c.requires.1 in let b = c.requires.1.room in omega (arith, c.requires.0)

pub put-requires-2 : goal.put-requires-2
put-requires-2 c =
    let a = given_few c.requires.1 in let b = c.requires.1.room in let d = c.put.ensures.frame.len in omega (arith, c.requires.0)

pub put-requires-3 : goal.put-requires-3
put-requires-3 c =
    let a = given_few c.requires.1 in let b = c.requires.1.room in let d = c.put.ensures.frame.len in let e = c.put-2.ensures.frame.len in omega (arith, c.requires.0)

pub shape_of-w : goal.shape_of-w
shape_of-w c =
    c.put-3.ensures.frame.len ∙ c.put-2.ensures.frame.len ∙ c.put.ensures.frame.len

pub returns : goal.returns
returns c =
    let a = given_few c.requires.1 in
    let l = c.requires.0 in
    put_direct_is _ _ _ _ (omega arith) c.direct-to.ensures
    (λ d ends q. own_rows q _ c.requires.0 _ _ _ _ _ _ _ c.has-acquires.ensures c.onward-onward.ensures c.after-after.ensures c.bitand.ensures c.only_if-visible.ensures c.bitand-2.ensures c.only_if-available.ensures)
    c.put.ensures c.put-2.ensures c.put-3.ensures
