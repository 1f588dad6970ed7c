use mathlib.Core.Path.{◌≡◌, sym, ◌∙◌}
use native.Mathlib.Omega.{arith}
use Rattle.finite.specs.Below.{any_more, any_in}
use Rattle.flags_location.specs.Chains.{carried_low}
use borrow.Author.Rules.{rules}
use Rattle.flags_location.proofs.chains.some_carried.Goals as goal

pub loop-a-init : goal.loop-a-init
loop-a-init c = (search rules, carried_low _ _ _ _ _ _ _)

pub returns-then-carried_in : goal.returns-then-carried_in
returns-then-carried_in c = sym (any_in _ _ _ c.loop-a-test.true (sym c.carried_in.ensures ∙ c.if-carried_in.true))

pub loop-a-preserved : goal.loop-a-preserved
loop-a-preserved c = (search rules, any_more _ _ c.loop-a.invariant.1 (sym c.carried_in.ensures ∙ c.if-carried_in.false))

pub returns : goal.returns
returns c =
    let e : c.loop-a.a ≡ c.args.t.now.rows = omega arith in
    sym (rw e at c.loop-a.invariant.1)
