use mathlib.Core.Path.{◌≡◌}
use native.Mathlib.Omega.{arith}
use Rattle.work_sets.specs.Meet.{apart_none, apart_more, least_none, least_here}
use borrow.Author.Rules.{rules}
use Rattle.work_sets.proofs.first_both.Goals as goal

pub loop-m-init : goal.loop-m-init
loop-m-init c = (search rules, apart_none _ _ _)

pub returns-then-x-gt0 : goal.returns-then-x-gt0
returns-then-x-gt0 c =
    let a = c.args in
    least_here a.w.now a.a a.b a.n c.loop-m.m c.lowest.result (search rules) c.loop-m.invariant.1
    c.lowest.ensures.1 c.lowest.ensures.0

pub loop-m-preserved : goal.loop-m-preserved
loop-m-preserved c =
    (search rules, apart_more _ _ _ _ c.loop-m.invariant.1 (omega (arith, c.if-x-gt0.false)))

pub returns : goal.returns
returns c =
    let e : c.loop-m.m ≡ c.args.n = omega arith in
    least_none _ _ _ _ (rw e at c.loop-m.invariant.1)
