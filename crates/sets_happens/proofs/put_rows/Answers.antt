use Rattle.sets_grids.specs.Given.{given_few}
use Rattle.sets_happens.specs.Program.{ordering_begin, ordering_turn, ordering_end}
use borrow.Author.Rules.{rules}
use native.Mathlib.Omega.{arith}
use Rattle.sets_happens.proofs.put_rows.Goals as goal

pub loop-i-init : goal.loop-i-init
loop-i-init c = (search rules, ordering_begin _ _ _)

pub after-after-requires : goal.after-after-requires
after-after-requires c = (c.loop-i-test.true, c.requires.opened)

pub put-requires : goal.put-requires
put-requires c =
    let a = c.requires.room in let b = given_few c.requires in let d = c.loop-i.invariant.1.frame.len in omega (arith, c.loop-i-test.true)

pub loop-i-preserved : goal.loop-i-preserved
loop-i-preserved c =
    let b = given_few c.requires in
    (search rules, ordering_turn _ (omega (arith, c.loop-i-test.true)) c.loop-i.invariant.1 c.after-after.ensures c.put.ensures)

pub shape_of-w : goal.shape_of-w
shape_of-w c = c.loop-i.invariant.1.frame.len

pub returns : goal.returns
returns c = ordering_end (omega (arith, c.loop-i-test.false, c.loop-i.invariant.0)) c.loop-i.invariant.1
