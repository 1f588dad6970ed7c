use mathlib.Core.Path.{◌≡◌, sym, ◌∙◌}
use native.Mathlib.Omega.{arith}
use Rattle.finite.specs.Below.{any_none, any_more, any_in}
use borrow.Author.Rules.{rules}
use Rattle.flags_sync.proofs.carriers.is_carried_out.Goals as goal

pub loop-x-init : goal.loop-x-init
loop-x-init c = (search rules, any_none _)

pub returns-then-carries_out_at : goal.returns-then-carries_out_at
returns-then-carries_out_at c = sym (any_in _ _ _ c.loop-x-test.true (sym c.carries_out_at.ensures ∙ c.if-carries_out_at.true))

pub loop-x-preserved : goal.loop-x-preserved
loop-x-preserved c = (search rules, any_more _ _ c.loop-x.invariant.1 (sym c.carries_out_at.ensures ∙ c.if-carries_out_at.false))

pub returns : goal.returns
returns c =
    let e : c.loop-x.x ≡ c.args.t.now.rows = omega arith in
    sym (rw e at c.loop-x.invariant.1)
