use mathlib.Core.Path.{sym, ◌∙◌}
use Rattle.sets_grids.specs.Given.{given_few, given_kept}
use Rattle.sets_grids.specs.Filling.{member_in}
use Rattle.bits.specs.Within.{within_refl, within_trans}
use Rattle.sets_happens.specs.Adding.{add_begin, add_turn, row_before, puts_adds, made_grid}
use Rattle.sets_of_rows.specs.Walk.{walk_less, walk_in}
use Rattle.sets_happens.specs.Program.{available_set, available_rows_order, available_visibles_order, availables_order}
use native.Mathlib.Omega.{arith}
use Rattle.sets_happens.proofs.put_availables.Goals as goal

pub rows-a-items-requires : goal.rows-a-items-requires
rows-a-items-requires c = let a = c.requires.0.opened.space in omega arith

pub loop-a-init : goal.loop-a-init
loop-a-init c = (add_begin _ _ _ _, add_begin _ _ _ _, add_begin _ _ _ _, within_refl _ _ _)

pub put_available-requires : goal.put_available-requires
put_available-requires c =
    let m = member_in _ (available_set c.requires.0.opened (c.into_iter-a-iterator.ensures.into_iter_gives ∙ c.rows-a-items.ensures)) (walk_in c.loop-a.invariant.0.walk c.in-Some.ensures.steps.0) in
    (m.0, given_kept c.loop-a.invariant.3 c.requires.0)

pub loop-a-preserved : goal.loop-a-preserved
loop-a-preserved c =
    let inv = c.loop-a.invariant in
    let low = c.in-Some.ensures.steps.0 in
    let rest = c.in-Some.ensures.steps.1 in
    let put = c.put_available.ensures in
    (add_turn _ _ _ _ inv.0 low rest (puts_adds (λ j. row_before _ _ _ _ inv.0 low j ∙ c.requires.1.rows.is _ j low.bound) put.rows), add_turn _ _ _ _ inv.1 low rest (puts_adds (λ j. row_before _ _ _ _ inv.1 low j ∙ c.requires.1.visibles.is _ j low.bound) put.visibles), add_turn _ _ _ _ inv.2 low rest (puts_adds (λ j. row_before _ _ _ _ inv.2 low j ∙ c.requires.1.availables.is _ j low.bound) put.availables), within_trans inv.3 put.frame)

pub shape_of-w : goal.shape_of-w
shape_of-w c = c.loop-a.invariant.3.len

pub returns : goal.returns
returns c =
    let inv = c.loop-a.invariant in
    let o = c.requires.0.opened.rows in
    let few = given_few c.requires.0 in
    let set = available_set c.requires.0.opened (c.into_iter-a-iterator.ensures.into_iter_gives ∙ c.rows-a-items.ensures) in
    record {
      rows = made_grid _ _ few set (λ i j l m. available_rows_order _ o i j l m) _ c.in-None.ensures.steps.0 inv.0 c.requires.1.rows;
      visibles = made_grid _ _ few set (λ i j l m. available_visibles_order _ o i j l m) _ c.in-None.ensures.steps.0 inv.1 c.requires.1.visibles;
      availables = made_grid _ _ few set (λ i j l m. availables_order _ o i j l m) _ c.in-None.ensures.steps.0 inv.2 c.requires.1.availables;
      frame = inv.3;
    }
