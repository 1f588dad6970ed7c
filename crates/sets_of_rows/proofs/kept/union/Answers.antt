use Rattle.sets_of_rows.specs.Tasks.{leads_off, leads_on}
use Rattle.sets_of_rows.specs.Walk.{gather_begin, gather_turn, gather_end}
use Rattle.sets_of_rows.proofs.kept.union.Goals as goal

pub loop-i-init : goal.loop-i-init
loop-i-init c = rw c.into_iter-i-iterator.ensures.into_iter_gives (gather_begin _ _ (leads_off _ _ _) _ c.none-r.ensures)

pub loop-i-preserved : goal.loop-i-preserved
loop-i-preserved c =
    gather_turn _ _ (leads_off _ _ _) c.loop-i.invariant c.in-Some.ensures.steps.0 c.in-Some.ensures.steps.1
    (leads_on _ _ _ _ _ _ _ c.get.ensures c.bitor_assign.ensures.after)

pub returns : goal.returns
returns c = gather_end _ _ (leads_off _ _ _) _ _ c.in-None.ensures.steps.0 c.loop-i.invariant.1
