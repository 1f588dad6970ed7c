use mathlib.Core.Path.{◌≡◌, refl}
use native.Mathlib.Omega.{arith}
use Rattle.flags_order.specs.System.{all_none, all_more}
use Rattle.run.specs.Layout.{mode_in}
use borrow.Author.Rules.{rules}
use Rattle.flags_order.proofs.steps.add_dependencies.Goals as goal

pub loop-c-init : goal.loop-c-init
loop-c-init c = (search rules, c.dependencies-c-end.ensures, refl, all_none _ _ _)

pub loop-c-preserved : goal.loop-c-preserved
loop-c-preserved c =
    let inv = c.loop-c.invariant in
    let made = all_more _ _ _ inv.3 c.put_dependency.ensures in
    (search rules, inv.1, made.frame.len, made)

pub returns : goal.returns
returns c =
    let inv = c.loop-c.invariant in
    let e : c.loop-c.c ≡ (mode_in c.args.t.now.bytes).dependencies = omega arith in
    rw e at inv.3
