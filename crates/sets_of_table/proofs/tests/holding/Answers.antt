use mathlib.Core.Path.{◌≡◌}
use native.Mathlib.Omega.{arith}
use Rattle.sets_of_table.specs.Sorted.{held_none, held_more}
use borrow.Author.Rules.{rules}
use Rattle.sets_of_table.proofs.tests.holding.Goals as goal

pub loop-m-init : goal.loop-m-init
loop-m-init c = (search rules, held_none _ _ _ c.none-a.ensures)

pub loop-m-preserved : goal.loop-m-preserved
loop-m-preserved c =
    (search rules, held_more _ _ _ c.loop-m.invariant.1 c.holds_class-b.ensures c.get.ensures c.only_if.ensures c.bitor_assign.ensures.after)

pub returns : goal.returns
returns c =
    let e : c.loop-m.m ≡ 16 = omega arith in
    rw e at c.loop-m.invariant.1
