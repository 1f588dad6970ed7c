use mathlib.Core.Path.{◌≡◌}
use native.Mathlib.Omega.{arith}
use Rattle.sets_of_table.specs.Ask.{classed_none, classed_more, classed_rows}
use borrow.Author.Rules.{rules}
use Rattle.sets_of_table.proofs.ask.of_classes.Goals as goal

pub loop-q-init : goal.loop-q-init
loop-q-init c = (search rules, classed_none _ _ _ c.none-a.ensures)

pub loop-q-preserved : goal.loop-q-preserved
loop-q-preserved c =
    (search rules, classed_more _ _ _ c.loop-q.invariant.1 c.holds_class.ensures c.get.ensures c.only_if.ensures c.bitor_assign.ensures.after)

pub returns : goal.returns
returns c =
    let e : c.loop-q.q ≡ 4 = omega arith in
    classed_rows c.requires.1 _ _ (rw e at c.loop-q.invariant.1)
