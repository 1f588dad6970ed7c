use mathlib.Core.Path.{◌≡◌}
use Rattle.sets_closure.specs.Classes.{holds_none, holds_more}
use borrow.Author.Rules.{rules}
use native.Mathlib.Omega.{arith}
use Rattle.sets_closure.proofs.holding.Goals as goal

pub loop-m-init : goal.loop-m-init
loop-m-init c = (search rules, holds_none _ _ _ c.none-a.ensures)

pub get-requires : goal.get-requires
get-requires c =
    let a = c.requires.1 in let b = c.loop-m-test.true in omega arith

pub loop-m-preserved : goal.loop-m-preserved
loop-m-preserved c =
    (search rules, holds_more _ _ _ c.loop-m.invariant.1 c.holds-b.ensures c.get.ensures c.only_if.ensures c.bitor_assign.ensures.after)

pub returns : goal.returns
returns c = let e : c.loop-m.m ≡ 16 = omega arith in rw e at c.loop-m.invariant.1
