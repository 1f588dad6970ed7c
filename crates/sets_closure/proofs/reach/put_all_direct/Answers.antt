use mathlib.Core.Path.{sym, ◌∙◌}
use Rattle.bits.specs.Within.{within_refl, within_trans}
use Rattle.sets_grids.specs.Given.{given_kept}
use Rattle.sets_of_rows.specs.Walk.{walk_less, walk_in}
use Rattle.sets_closure.specs.Reaching.{put_begin, put_turn, put_end}
use Rattle.sets_closure.proofs.reach.put_all_direct.Goals as goal

pub loop-h-init : goal.loop-h-init
loop-h-init c = rw c.into_iter-h-iterator.ensures.into_iter_gives ((within_refl _ _ _, put_begin _ _ _ _))

pub put_direct-requires : goal.put_direct-requires
put_direct-requires c =
    (c.requires.0 _ (walk_in c.loop-h.invariant.1.0 c.in-Some.ensures.steps.0), given_kept c.loop-h.invariant.0 c.requires.1)

pub loop-h-preserved : goal.loop-h-preserved
loop-h-preserved c =
    (within_trans c.loop-h.invariant.0 c.put_direct.ensures.kept.frame, put_turn c.loop-h.invariant.0 c.loop-h.invariant.1 c.in-Some.ensures.steps.0 c.in-Some.ensures.steps.1 c.put_direct.ensures)

pub shape_of-w : goal.shape_of-w
shape_of-w c = c.loop-h.invariant.0.len

pub returns : goal.returns
returns c = put_end _ c.in-None.ensures.steps.0 c.loop-h.invariant.1.1 c.loop-h.invariant.0
