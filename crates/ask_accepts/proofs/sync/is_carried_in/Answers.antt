use Rattle.ask_accepts.specs.Syncing.{both}
use mathlib.Core.Path.{◌≡◌, sym}
use mathlib.Core.Bool.{false}
use native.Mathlib.Omega.{arith}
use Rattle.finite.specs.Logic.{◌and◌}
use Rattle.finite.specs.Below.{any_none, any_more, any_in}
use Rattle.model.specs.Synchronizes.{carries_in}
use borrow.Author.Rules.{rules}
use Rattle.ask_accepts.proofs.sync.is_carried_in.Goals as goal

pub loop-y-init : goal.loop-y-init
loop-y-init c = (search rules, any_none _)

pub returns-then-trails_at-takes_from : goal.returns-then-trails_at-takes_from
unfolding carries_in ◌and◌
returns-then-trails_at-takes_from c = sym (any_in _ _ _ c.loop-y-test.true
    (both c.trails_at.ensures c.takes_from.ensures c.if-trails_at-takes_from.true))

pub loop-y-preserved : goal.loop-y-preserved
unfolding carries_in ◌and◌
loop-y-preserved c = (
  search rules,
  any_more _ _ c.loop-y.invariant.1
      (both c.trails_at.ensures c.takes_from.ensures c.if-trails_at-takes_from.false),
)

pub returns : goal.returns
returns c =
    let e : c.loop-y.y ≡ c.args.t.now.rows = omega arith in
    sym (rw e at c.loop-y.invariant.1)
