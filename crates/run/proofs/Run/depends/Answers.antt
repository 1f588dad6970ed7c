use mathlib.Core.Path.{◌≡◌, sym, ◌∙◌}
use native.Mathlib.Omega.{arith}
use Rattle.finite.specs.Below.{any_none, any_more, any_in}
use Rattle.model.specs.Table.{depends_of}
use Rattle.run.specs.Layout.{mode_in}
use borrow.Author.Rules.{rules}
use Rattle.run.proofs.Run.depends.Goals as goal

pub loop-k-init : goal.loop-k-init
loop-k-init c = (search rules, c.dependencies-k-end.ensures, any_none _)

pub returns-then-is_dependency : goal.returns-then-is_dependency
unfolding depends_of
returns-then-is_dependency c =
    let l = c.loop-k-test.true in
    let e = c.loop-k.invariant.1 in
    sym (any_in _ _ _ (omega (arith, l, e)) (sym c.is_dependency.ensures ∙ c.if-is_dependency.true))

pub loop-k-preserved : goal.loop-k-preserved
loop-k-preserved c =
    let inv = c.loop-k.invariant in
    (search rules, inv.1, any_more _ _ inv.2 (sym c.is_dependency.ensures ∙ c.if-is_dependency.false))

pub returns : goal.returns
unfolding depends_of
returns c =
    let inv = c.loop-k.invariant in
    let e : c.loop-k.k ≡ (mode_in c.args.self.now.bytes).dependencies = omega arith in
    sym (rw e at inv.2)
