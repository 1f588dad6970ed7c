use mathlib.Core.Path.{◌≡◌, sym, ◌∙◌}
use native.Mathlib.Omega.{arith}
use lib.ListN.{length}
use Rattle.finite.specs.Below.{any_none, any_more}
use Rattle.ask_accepts.specs.Judging.{stands_first, stands_next, step_low, broken_is, leads_broken, leads_whole}
use borrow.Author.Rules.{rules}
use mathlib.Core.Path.{ap}
use mathlib.Core.Bool.{not}
use Rattle.ask_accepts.proofs.is_chain.Goals as goal

pub loop-x-init : goal.loop-x-init
loop-x-init c = (search rules, stands_first _ _, search rules, any_none _)

pub returns-then-not-is_step : goal.returns-then-not-is_step
returns-then-not-is_step c =
    let inv = c.loop-x.invariant in
    leads_broken _ _ _ _ _ _ _ _ _ c.loop-x-test.true
    (broken_is _ _ _ _ _ _ _ _ _ _ inv.1 c.is_step.ensures ∙ (ap not c.if-not-is_step.true))

pub loop-x-preserved : goal.loop-x-preserved
loop-x-preserved c =
    let inv = c.loop-x.invariant in (
      search rules,
      stands_next _ _ _,
      step_low _ _ _ _ _ _ _ (sym c.is_step.ensures ∙ c.if-not-is_step.false),
      any_more _ _ inv.3 (broken_is _ _ _ _ _ _ _ _ _ _ inv.1 c.is_step.ensures ∙ (ap not c.if-not-is_step.false)),
    )

pub returns : goal.returns
returns c =
    let e : c.loop-x.x-index ≡ length c.args.steps.now = omega arith in
    leads_whole _ _ _ _ _ _ _ _ _ _ e c.loop-x.invariant.1 c.loop-x.invariant.3
