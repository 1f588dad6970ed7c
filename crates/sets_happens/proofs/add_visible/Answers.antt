use mathlib.Core.Path.{sym, ◌∙◌}
use Rattle.sets_grids.specs.Given.{given_few}
use Rattle.sets_grids.specs.Filling.{member_in}
use Rattle.bits.specs.Within.{within_refl, within_trans, within_widen}
use Rattle.sets_grids.specs.Regions.{HAPPENS, HAPPENS_END}
use Rattle.sets_happens.specs.Adding.{add_begin, add_turn, adds_cong, added_grid}
use Rattle.sets_of_rows.specs.Walk.{walk_less, walk_in}
use Rattle.sets_happens.specs.Behind.{reached_kept, visible_later, visibles_is}
use native.Mathlib.Omega.{arith}
use Rattle.sets_happens.proofs.add_visible.Goals as goal

pub loop-v-init : goal.loop-v-init
loop-v-init c = rw c.into_iter-v-iterator.ensures.into_iter_gives ((add_begin _ _ _ _, within_refl _ _ _))

pub after-requires : goal.after-requires
after-requires c =
    ((member_in _ c.requires.concerns.visible (walk_in c.loop-v.invariant.0.walk c.in-Some.ensures.steps.0)).0, c.requires.given.opened)

pub join_visible-requires : goal.join_visible-requires
join_visible-requires c =
    let a = c.requires.given.room in let d = c.loop-v.invariant.1.len in (c.in-Some.ensures.steps.0.bound, omega arith)

pub loop-v-preserved : goal.loop-v-preserved
loop-v-preserved c =
    let inv = c.loop-v.invariant in
    let join = c.join_visible.ensures in
    let q = reached_kept (within_widen HAPPENS HAPPENS_END (omega arith) (omega arith) c.loop-v.invariant.1) c.requires in
    (add_turn _ _ _ _ inv.0 c.in-Some.ensures.steps.0 c.in-Some.ensures.steps.1 (adds_cong (visible_later q _ _ c.after.ensures c.bitand-r.ensures) join.row), within_trans inv.1 join.frame)

pub shape_of-w : goal.shape_of-w
shape_of-w c = c.loop-v.invariant.1.len

pub returns : goal.returns
returns c =
    added_grid _ _ (given_few c.requires.given) c.requires.concerns.visible (λ i j l m. visibles_is c.requires i j l) _ c.in-None.ensures.steps.0 c.loop-v.invariant.0 c.loop-v.invariant.1
