use Rattle.sets_of_rows.specs.Rows.{started}
use mathlib.Core.Path.{sym, ◌∙◌}
use Rattle.sets_grids.specs.Given.{given_few, given_kept}
use Rattle.sets_grids.specs.Filling.{member_in}
use Rattle.bits.specs.Within.{within_refl, within_trans, within_widen}
use Rattle.sets_grids.specs.Regions.{HAPPENS, HAPPENS_END, AVAILABLE_AT}
use Rattle.sets_happens.specs.Adding.{add_begin, add_turn, adds_join, adds_cong, added_grid}
use Rattle.sets_of_rows.specs.Walk.{walk_less, walk_in}
use Rattle.sets_happens.specs.Behind.{reached_kept, concerned_set, at_turn, at_same}
use native.Mathlib.Omega.{arith}
use Rattle.sets_happens.proofs.add_at.Goals as goal

pub loop-i-init : goal.loop-i-init
loop-i-init c = (add_begin _ _ _ _, within_refl _ _ _)

pub from_row-to-requires : goal.from_row-to-requires
from_row-to-requires c =
    ((member_in _ (concerned_set c.requires _ (started c.into_iter-i-iterator.ensures.into_iter_gives c.bitor-i-items.ensures)) (walk_in c.loop-i.invariant.0.walk c.in-Some.ensures.steps.0)).0, given_kept c.loop-i.invariant.1 c.requires.given)

pub join-requires : goal.join-requires
join-requires c =
    let a = c.requires.given.room in let b = c.in-Some.ensures.steps.0.bound in let d = c.loop-i.invariant.1.len in omega arith

pub loop-i-preserved : goal.loop-i-preserved
loop-i-preserved c =
    let inv = c.loop-i.invariant in
    let low = c.in-Some.ensures.steps.0 in
    let m = member_in _ (concerned_set c.requires _ (started c.into_iter-i-iterator.ensures.into_iter_gives c.bitor-i-items.ensures)) (walk_in inv.0.walk low) in
    let q = reached_kept (within_widen HAPPENS HAPPENS_END (omega arith) (omega arith) c.loop-i.invariant.1) c.requires in (
      add_turn _ _ _ _ inv.0 low c.in-Some.ensures.steps.1 (adds_cong (at_turn q _ m.0 m.1 (c.from_row-to.ensures _ _ q)) (adds_join {base = HAPPENS} _ c.join.ensures)),
      within_trans inv.1 (within_widen HAPPENS AVAILABLE_AT (omega arith) (omega (arith, low.bound)) c.join.ensures.frame),
    )

pub shape_of-w : goal.shape_of-w
shape_of-w c = c.loop-i.invariant.1.len

pub returns : goal.returns
returns c =
    added_grid _ _ (given_few c.requires.given) (concerned_set c.requires _ (started c.into_iter-i-iterator.ensures.into_iter_gives c.bitor-i-items.ensures)) (λ i j l m. at_same c.requires i j l) _ c.in-None.ensures.steps.0 c.loop-i.invariant.0 c.loop-i.invariant.1
