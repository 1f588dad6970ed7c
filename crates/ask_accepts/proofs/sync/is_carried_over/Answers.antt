use Rattle.ask_accepts.specs.Syncing.{both}
use mathlib.Core.Path.{◌≡◌, sym}
use mathlib.Core.Bool.{false}
use native.Mathlib.Omega.{arith}
use Rattle.finite.specs.Logic.{◌and◌}
use Rattle.finite.specs.Below.{any_none, any_more, any_in}
use Rattle.model.specs.Table.{decode}
use Rattle.model.specs.Synchronizes.{carries_over}
use borrow.Author.Rules.{rules}
use Rattle.ask_accepts.proofs.sync.is_carried_over.Goals as goal

pub loop-x-init : goal.loop-x-init
loop-x-init c = (search rules, any_none _)

pub returns-then-leads_at-is_carried_in : goal.returns-then-leads_at-is_carried_in
unfolding carries_over decode ◌and◌
returns-then-leads_at-is_carried_in c = sym (any_in _ _ _ c.loop-x-test.true
    (both c.leads_at.ensures c.is_carried_in.ensures c.if-leads_at-is_carried_in.true))

pub loop-x-preserved : goal.loop-x-preserved
unfolding carries_over decode ◌and◌
loop-x-preserved c = (
  search rules,
  any_more _ _ c.loop-x.invariant.1
      (both c.leads_at.ensures c.is_carried_in.ensures c.if-leads_at-is_carried_in.false),
)

pub returns : goal.returns
returns c =
    let e : c.loop-x.x ≡ c.args.t.now.rows = omega arith in
    sym (rw e at c.loop-x.invariant.1)
