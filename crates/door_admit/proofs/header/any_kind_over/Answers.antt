use mathlib.Core.Path.{◌≡◌, sym, ◌∙◌}
use native.Mathlib.Omega.{arith}
use Rattle.finite.specs.Below.{any_none, any_more, any_in}
use borrow.Author.Rules.{rules}
use Rattle.door_admit.proofs.header.any_kind_over.Goals as goal

pub loop-a-init : goal.loop-a-init
loop-a-init c = (search rules, any_none _)

pub returns-then-kind_over : goal.returns-then-kind_over
returns-then-kind_over c = sym (any_in _ _ _ c.loop-a-test.true (sym c.kind_over.ensures ∙ c.if-kind_over.true))

pub loop-a-preserved : goal.loop-a-preserved
loop-a-preserved c = (search rules, any_more _ _ c.loop-a.invariant.1 (sym c.kind_over.ensures ∙ c.if-kind_over.false))

pub returns : goal.returns
returns c =
    let done : c.loop-a.a ≡ c.args.agents = omega arith in
    sym (rw done at c.loop-a.invariant.1)
