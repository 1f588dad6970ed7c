use mathlib.Core.Path.{sym, ◌∙◌}
use Rattle.sets_of_rows.specs.Walk.{walk_less, walk_in, gather_begin, gather_turn, gather_end}
use Rattle.sets_control.specs.Passed.{arrives_off, arrives_on, arrived_rows}
use native.Mathlib.Omega.{arith}
use Rattle.sets_control.proofs.arrivals.Goals as goal

pub loop-k-init : goal.loop-k-init
loop-k-init c = rw c.into_iter-k-iterator.ensures.into_iter_gives (gather_begin _ _ (arrives_off _ _ _) _ c.none-all.ensures)

pub onward-requires : goal.onward-requires
onward-requires c =
    (c.requires.0 _ (walk_in c.loop-k.invariant.0 c.in-Some.ensures.steps.0), c.requires.1)

pub loop-k-preserved : goal.loop-k-preserved
loop-k-preserved c =
    gather_turn _ _ (arrives_off _ _ _) c.loop-k.invariant c.in-Some.ensures.steps.0 c.in-Some.ensures.steps.1 (arrives_on _ _ _ _ _ _ _ c.onward.ensures c.bitor_assign.ensures.after)

pub rows-requires : goal.rows-requires
rows-requires c =
    let a = c.requires.1.space in omega arith

pub returns : goal.returns
returns c =
    arrived_rows c.requires.1 _ _ _ _ (gather_end _ _ (arrives_off _ _ _) _ _ c.in-None.ensures.steps.0 c.loop-k.invariant.1) c.rows.ensures c.bitand.ensures
