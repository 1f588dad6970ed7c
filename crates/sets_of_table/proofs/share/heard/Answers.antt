use mathlib.Core.Path.{◌≡◌}
use native.Mathlib.Omega.{arith}
use Rattle.sets_of_table.specs.Share.{SCOPES}
use Rattle.sets_of_table.specs.Hears.{hears_none, hears_more}
use borrow.Author.Rules.{rules}
use Rattle.sets_of_table.proofs.share.heard.Goals as goal

pub loop-q-init : goal.loop-q-init
loop-q-init c = (search rules, hears_none _ _ _ c.none-x.ensures)

pub loop-q-preserved : goal.loop-q-preserved
loop-q-preserved c =
    (search rules, hears_more _ _ _ c.loop-q.invariant.1 c.get.ensures c.get-in-loop-q.ensures c.bitand-y.ensures c.bitor_assign.ensures.after)

pub returns : goal.returns
returns c =
    let e : c.loop-q.q ≡ SCOPES = omega arith in
    rw e at c.loop-q.invariant.1
