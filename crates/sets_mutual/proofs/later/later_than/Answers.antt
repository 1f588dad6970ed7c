use mathlib.Core.Path.{sym, ◌∙◌}
use Rattle.sets_of_rows.specs.Walk.{walk_less}
use Rattle.sets_of_rows.specs.Sift.{sift_begin, sift_turn, sift_end}
use Rattle.sets_mutual.proofs.later.later_than.Goals as goal

pub loop-j-init : goal.loop-j-init
loop-j-init c = rw c.into_iter-j-iterator.ensures.into_iter_gives (sift_begin _ _ _ c.none-r.ensures)

pub loop-j-preserved : goal.loop-j-preserved
loop-j-preserved c =
    sift_turn _ _ _ c.loop-j.invariant c.in-Some.ensures.steps.0 c.in-Some.ensures.steps.1 c.is_after-b.ensures c.add_if-r.ensures

pub returns : goal.returns
returns c = sift_end _ _ _ _ c.in-None.ensures.steps.0 c.loop-j.invariant.1
