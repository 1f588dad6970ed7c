use mathlib.Core.Path.{◌≡◌, sym, ◌∙◌}
use native.Mathlib.Omega.{arith}
use Rattle.finite.specs.Below.{any_none, any_more, any_in}
use Rattle.flags_order.specs.Cases.{live_first, live_other}
use borrow.Author.Rules.{rules}
use Rattle.flags_order.proofs.is_live.Goals as goal

pub returns-then-s-eq1 : goal.returns-then-s-eq1
returns-then-s-eq1 c = sym (live_first _ _ _ _ _ c.if-s-eq1.true)

pub loop-i-init : goal.loop-i-init
loop-i-init c = (search rules, any_none _, c.if-s-eq1.false)

pub returns-then-holds_at : goal.returns-then-holds_at
returns-then-holds_at c =
    sym (live_other _ _ _ _ _ c.loop-i.invariant.2
    ∙ any_in _ _ _ c.loop-i-test.true (sym c.holds_at.ensures ∙ c.if-holds_at.true))

pub loop-i-preserved : goal.loop-i-preserved
loop-i-preserved c =
    let inv = c.loop-i.invariant in
    (search rules, any_more _ _ inv.1 (sym c.holds_at.ensures ∙ c.if-holds_at.false), inv.2)

pub returns : goal.returns
returns c =
    let e : c.loop-i.i ≡ c.args.t.now.rows = omega arith in
    let inv = c.loop-i.invariant in
    sym (live_other _ _ _ _ _ inv.2 ∙ rw e at inv.1)
