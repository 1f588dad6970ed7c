use mathlib.Core.Path.{◌≡◌, sym, ◌∙◌}
use native.Mathlib.Omega.{arith}
use Rattle.finite.specs.Below.{any_none, any_more, any_in}
use borrow.Author.Rules.{rules}
use Rattle.flags_sync.proofs.carriers.is_carried_in.Goals as goal

pub loop-y-init : goal.loop-y-init
loop-y-init c = (search rules, any_none _)

pub returns-then-carries_in_at : goal.returns-then-carries_in_at
returns-then-carries_in_at c = sym (any_in _ _ _ c.loop-y-test.true (sym c.carries_in_at.ensures ∙ c.if-carries_in_at.true))

pub loop-y-preserved : goal.loop-y-preserved
loop-y-preserved c = (search rules, any_more _ _ c.loop-y.invariant.1 (sym c.carries_in_at.ensures ∙ c.if-carries_in_at.false))

pub returns : goal.returns
returns c =
    let e : c.loop-y.y ≡ c.args.t.now.rows = omega arith in
    sym (rw e at c.loop-y.invariant.1)
