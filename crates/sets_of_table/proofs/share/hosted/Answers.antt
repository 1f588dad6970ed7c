use mathlib.Core.Path.{◌≡◌}
use native.Mathlib.Omega.{arith}
use Rattle.model.specs.Limits.{AGENTS}
use Rattle.sets_of_table.specs.Hears.{hosts_none, hosts_more}
use borrow.Author.Rules.{rules}
use Rattle.sets_of_table.proofs.share.hosted.Goals as goal

pub loop-a-init : goal.loop-a-init
loop-a-init c = (search rules, hosts_none _ _ _ c.none-x.ensures)

pub loop-a-preserved : goal.loop-a-preserved
loop-a-preserved c =
    (search rules, hosts_more _ _ _ c.loop-a.invariant.1 c.is_host.ensures c.get-v.ensures c.only_if.ensures c.bitor_assign.ensures.after)

pub returns : goal.returns
returns c =
    let e : c.loop-a.a ≡ AGENTS = omega arith in
    rw e at c.loop-a.invariant.1
