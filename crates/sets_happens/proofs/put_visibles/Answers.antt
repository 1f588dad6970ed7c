use mathlib.Core.Path.{sym, ◌∙◌}
use Rattle.sets_grids.specs.Given.{given_few}
use Rattle.sets_grids.specs.Filling.{member_in}
use Rattle.bits.specs.Within.{within_refl, within_trans, within_widen}
use Rattle.sets_grids.specs.Regions.{HAPPENS_END, VISIBLE_VISIBLE}
use Rattle.sets_happens.specs.Adding.{add_begin, add_turn, row_before, puts_adds, puts_put, puts_cong, made_grid}
use Rattle.sets_of_rows.specs.Walk.{walk_less, walk_in}
use Rattle.sets_happens.specs.Program.{visible_to_lem, visible_set, visibles_order}
use native.Mathlib.Omega.{arith}
use Rattle.sets_happens.proofs.put_visibles.Goals as goal

pub rows-visible-requires : goal.rows-visible-requires
rows-visible-requires c = let a = c.requires.0.opened.space in omega arith

pub loop-v-init : goal.loop-v-init
loop-v-init c = (add_begin _ _ _ _, within_refl _ _ _)

pub after-requires : goal.after-requires
after-requires c =
    ((member_in _ (visible_set c.requires.0.opened (c.into_iter-v-iterator.ensures.into_iter_gives ∙ c.rows-visible.ensures)) (walk_in c.loop-v.invariant.0.walk c.in-Some.ensures.steps.0)).0, c.requires.0.opened)

pub put-requires : goal.put-requires
put-requires c =
    let a = c.requires.0.room in let b = c.in-Some.ensures.steps.0.bound in let d = c.loop-v.invariant.1.len in omega arith

pub loop-v-preserved : goal.loop-v-preserved
loop-v-preserved c =
    let inv = c.loop-v.invariant in
    let low = c.in-Some.ensures.steps.0 in (
      add_turn _ _ _ _ inv.0 low c.in-Some.ensures.steps.1
          (puts_adds (λ j. row_before _ _ _ _ inv.0 low j ∙ c.requires.1.is _ j low.bound)
          (puts_cong (visible_to_lem _ _ c.after.ensures (visible_set c.requires.0.opened c.rows-visible.ensures) c.bitand-after.ensures).is (puts_put {base = VISIBLE_VISIBLE} _ c.put.ensures))),
      within_trans inv.1 (within_widen VISIBLE_VISIBLE HAPPENS_END (omega arith) (omega (arith, low.bound)) c.put.ensures.frame),
    )

pub shape_of-w : goal.shape_of-w
shape_of-w c = c.loop-v.invariant.1.len

pub returns : goal.returns
returns c =
    let o = c.requires.0.opened.rows in
    record {
      grid = made_grid _ _ (given_few c.requires.0) (visible_set c.requires.0.opened (c.into_iter-v-iterator.ensures.into_iter_gives ∙ c.rows-visible.ensures)) (λ i j l m. visibles_order _ o i j l m) _ c.in-None.ensures.steps.0 c.loop-v.invariant.0 c.requires.1;
      frame = c.loop-v.invariant.1;
    }
