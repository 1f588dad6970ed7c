use Rattle.ask_accepts.specs.Syncing.{both}
use mathlib.Core.Path.{◌≡◌, sym}
use mathlib.Core.Bool.{false}
use native.Mathlib.Omega.{arith}
use Rattle.finite.specs.Logic.{◌and◌}
use Rattle.finite.specs.Below.{any_none, any_more, any_in}
use Rattle.model.specs.Synchronizes.{carries_out}
use borrow.Author.Rules.{rules}
use Rattle.ask_accepts.proofs.sync.is_carried_out.Goals as goal

pub loop-x-init : goal.loop-x-init
loop-x-init c = (search rules, any_none _)

pub returns-then-leads_at-takes_from : goal.returns-then-leads_at-takes_from
unfolding carries_out ◌and◌
returns-then-leads_at-takes_from c = sym (any_in _ _ _ c.loop-x-test.true
    (both c.leads_at.ensures c.takes_from.ensures c.if-leads_at-takes_from.true))

pub loop-x-preserved : goal.loop-x-preserved
unfolding carries_out ◌and◌
loop-x-preserved c = (
  search rules,
  any_more _ _ c.loop-x.invariant.1
      (both c.leads_at.ensures c.takes_from.ensures c.if-leads_at-takes_from.false),
)

pub returns : goal.returns
returns c =
    let e : c.loop-x.x ≡ c.args.t.now.rows = omega arith in
    sym (rw e at c.loop-x.invariant.1)
