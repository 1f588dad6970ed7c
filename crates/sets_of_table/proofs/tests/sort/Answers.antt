use mathlib.Core.Path.{◌≡◌, refl, ◌∙◌}
use native.Mathlib.Omega.{arith}
use Rattle.sets_of_table.specs.Sorted.{sorting_none, sorting_more, sorting_end}
use borrow.Author.Rules.{rules}
use Rattle.sets_of_table.proofs.tests.sort.Goals as goal

pub loop-q-init : goal.loop-q-init
loop-q-init c = (search rules, refl, sorting_none _)

pub loop-q-preserved : goal.loop-q-preserved
loop-q-preserved c =
    let inv = c.loop-q.invariant in
    let f = c.sort_class.ensures in
    (search rules, f.frame.len ∙ inv.1, sorting_more inv.2 f)

pub returns : goal.returns
returns c =
    let e : c.loop-q.q ≡ 4 = omega arith in
    sorting_end _ c.either-plain.ensures c.put.ensures (rw e at c.loop-q.invariant.2)
