use mathlib.Core.Path.{refl, ◌∙◌}
use Rattle.sets_edges.specs.Edges.{orders_begin, orders_turn, orders_end}
use borrow.Author.Rules.{rules}
use native.Mathlib.Omega.{arith}
use Rattle.sets_edges.proofs.put_orders.Goals as goal

pub loop-x-init : goal.loop-x-init
loop-x-init c = (search rules, refl, orders_begin _)

pub loop-x-preserved : goal.loop-x-preserved
loop-x-preserved c =
    let inv = c.loop-x.invariant in
    let put = c.put.ensures in
    let x_below = c.loop-x-test.true in
    let few_are = c.requires.0 in
    (search rules, put.frame.len ∙ inv.1, orders_turn _ _ _ (omega (arith, x_below, few_are)) inv.2 c.get.ensures c.get-in-loop-x.ensures c.bitor-to.ensures put)

pub returns : goal.returns
returns c =
    orders_end c.loop-x-test.false c.loop-x.invariant.2
