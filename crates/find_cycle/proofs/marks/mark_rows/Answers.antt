use mathlib.Core.Path.{◌≡◌, refl}
use native.Mathlib.Omega.{arith}
use Rattle.find_cycle.proofs.Marking.{swept_none, swept_more, swept_all}
use borrow.Author.Rules.{rules}
use Rattle.find_cycle.proofs.marks.mark_rows.Goals as goal

pub loop-x-init : goal.loop-x-init
loop-x-init c = (search rules, refl, swept_none _ _)

pub loop-x-preserved : goal.loop-x-preserved
loop-x-preserved c =
    let inv = c.loop-x.invariant in
    let put = c.put_if in
    let e = swept_more _ _ _ _ _ _ _ (omega arith) (omega arith) (omega arith) inv.0 inv.2
    c.may_loop-b.ensures put.ensures in
    (search rules, e.frame.len, e)

pub returns : goal.returns
returns c = let e : c.loop-x.x ≡ 0 = omega arith in swept_all _ _ _ (rw e at c.loop-x.invariant.2)
