use mathlib.Core.Path.{sym, ◌∙◌}
use Rattle.sets_grids.specs.Given.{given_few}
use Rattle.sets_grids.specs.Filling.{member_in}
use Rattle.bits.specs.Within.{within_refl, within_trans, within_widen}
use Rattle.sets_grids.specs.Regions.{HAPPENS, HAPPENS_END}
use Rattle.sets_happens.specs.Adding.{add_begin, add_turn, adds_cong, added_grid}
use Rattle.sets_of_rows.specs.Walk.{walk_less, walk_in}
use Rattle.sets_happens.specs.Behind.{reached_kept, by_behind, visible_behind, available_behind, available_at_is, available_visible_is, availables_is}
use native.Mathlib.Omega.{arith}
use Rattle.sets_happens.proofs.add_available.Goals as goal

pub loop-a-init : goal.loop-a-init
loop-a-init c = rw c.into_iter-a-iterator.ensures.into_iter_gives ((add_begin _ _ _ _, add_begin _ _ _ _, add_begin _ _ _ _, within_refl _ _ _))

pub after_available-requires : goal.after_available-requires
after_available-requires c =
    ((member_in _ c.requires.concerns.available (walk_in c.loop-a.invariant.0.walk c.in-Some.ensures.steps.0)).0, c.requires.given.opened)

pub join_available-requires : goal.join_available-requires
join_available-requires c =
    let a = c.requires.given.room in let d = c.loop-a.invariant.3.len in (c.in-Some.ensures.steps.0.bound, omega arith)

pub loop-a-preserved : goal.loop-a-preserved
loop-a-preserved c =
    let inv = c.loop-a.invariant in
    let low = c.in-Some.ensures.steps.0 in
    let rest = c.in-Some.ensures.steps.1 in
    let join = c.join_available.ensures in
    let q = reached_kept (within_widen HAPPENS HAPPENS_END (omega arith) (omega arith) c.loop-a.invariant.3) c.requires in
    (add_turn _ _ _ _ inv.0 low rest (adds_cong (by_behind q _ _ c.after_available.ensures c.bitand-r.ensures) join.rows), add_turn _ _ _ _ inv.1 low rest (adds_cong (visible_behind q _ _ c.after_available.ensures c.bitand-r.ensures) join.visibles), add_turn _ _ _ _ inv.2 low rest (adds_cong (available_behind q _ _ c.after_available.ensures c.bitand-r.ensures) join.availables), within_trans inv.3 join.frame)

pub shape_of-w : goal.shape_of-w
shape_of-w c = c.loop-a.invariant.3.len

pub returns : goal.returns
returns c =
    let inv = c.loop-a.invariant in
    let few = given_few c.requires.given in
    record {
      rows = added_grid _ _ few c.requires.concerns.available (λ i j l m. available_at_is c.requires i j l) _ c.in-None.ensures.steps.0 inv.0 inv.3;
      visibles = added_grid _ _ few c.requires.concerns.available (λ i j l m. available_visible_is c.requires i j l) _ c.in-None.ensures.steps.0 inv.1 inv.3;
      availables = added_grid _ _ few c.requires.concerns.available (λ i j l m. availables_is c.requires i j l) _ c.in-None.ensures.steps.0 inv.2 inv.3;
    }
