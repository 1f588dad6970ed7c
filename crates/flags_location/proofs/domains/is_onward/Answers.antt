use Rattle.finite.specs.Below.{any_none, any_more, any_in}
use native.Mathlib.Omega.{arith}
use mathlib.Core.Path.{◌≡◌, sym, ◌∙◌}
use borrow.Author.Rules.{rules}
use Rattle.flags_location.proofs.domains.is_onward.Goals as goal

pub loop-i-init : goal.loop-i-init
loop-i-init c = (search rules, any_none _)

pub returns-then-onward_at : goal.returns-then-onward_at
returns-then-onward_at c = sym (any_in _ _ _ c.loop-i-test.true (sym c.onward_at.ensures ∙ c.if-onward_at.true))

pub loop-i-preserved : goal.loop-i-preserved
loop-i-preserved c = (search rules, any_more _ _ c.loop-i.invariant.1 (sym c.onward_at.ensures ∙ c.if-onward_at.false))

pub returns : goal.returns
returns c =
    let e : c.loop-i.i ≡ c.args.t.now.rows = omega arith in
    sym (rw e at c.loop-i.invariant.1)
