use Rattle.sets_of_rows.specs.Rows.{started}
use mathlib.Core.Path.{sym, ◌∙◌}
use native.Mathlib.Omega.{arith}
use Rattle.finite.specs.Logic.{split}
use Rattle.bits.specs.Within.{within_refl, within_trans, within_cleared}
use Rattle.sets_of_rows.specs.Walk.{walk_less, walk_in}
use Rattle.sets_of_rows.specs.Rows.{rows_at, rows_and}
use Rattle.sets_of_table.specs.Known.{says_rows}
use Rattle.sets_of_table.specs.Ask.{few}
use Rattle.sets_grids.specs.Regions.{TAKEN, TAKEN_END}
use Rattle.sets_grids.specs.Grid.{grid_kept}
use Rattle.sets_grids.specs.Given.{given_kept}
use Rattle.sets_grids.specs.Filling.{member_in}
use Rattle.sets_sequences.specs.Heads.{cleared}
use Rattle.sets_sequences.specs.Taken.{taken_begin, taken_step, step_frame, taken_end}
use borrow.Author.Rules.{rules}
use Rattle.sets_sequences.proofs.taken.fill_taken.Goals as goal

pub rows-requires : goal.rows-requires
rows-requires c =
    let a = c.requires.0.opened.space in omega arith

pub rows-requires-2 : goal.rows-requires-2
rows-requires-2 c =
    let a = c.requires.0.opened.space in omega arith

pub loop-y-init : goal.loop-y-init
loop-y-init c =
    let o = c.requires.0.opened in
    let small = few o in
    (within_refl _ _ _, taken_begin _ _ o.rows small _ (rows_and (rows_at c.rows.ensures (says_rows o.known.tested.kinds.atomic)) (rows_at c.rows-2.ensures (says_rows o.known.tested.accesses.reads)) (started c.into_iter-y-iterator.ensures.into_iter_gives c.bitand-y-items.ensures)) (λ k j l. cleared TAKEN _ (search rules) c.clear.ensures k j (omega arith)))

pub take_from-requires : goal.take_from-requires
take_from-requires c =
    let pre = c.requires in
    let o = pre.0.opened in
    let small = few o in
    let m = member_in _ (rows_and (rows_at c.rows.ensures (says_rows o.known.tested.kinds.atomic)) (rows_at c.rows-2.ensures (says_rows o.known.tested.accesses.reads)) (started c.into_iter-y-iterator.ensures.into_iter_gives c.bitand-y-items.ensures)) (walk_in c.loop-y.invariant.1.0 c.in-Some.ensures.steps.0) in
    let f = within_trans (within_cleared TAKEN TAKEN_END (omega arith) c.clear.ensures) c.loop-y.invariant.0 in
    record {
      given = given_kept f pre.0;
      reader = m.0;
      atomic = (split m.1).0;
      mutuals = grid_kept (λ h. absurd (omega arith)) f pre.1;
      heads = grid_kept (λ h. absurd (omega arith)) f pre.2;
    }

pub loop-y-preserved : goal.loop-y-preserved
loop-y-preserved c =
    let o = c.requires.0.opened in
    let inv = c.loop-y.invariant in
    let take = c.take_from.ensures in
    let says = rows_and (rows_at c.rows.ensures (says_rows o.known.tested.kinds.atomic)) (rows_at c.rows-2.ensures (says_rows o.known.tested.accesses.reads)) (started c.into_iter-y-iterator.ensures.into_iter_gives c.bitand-y-items.ensures) in
    (within_trans inv.0 (step_frame _ _ o.rows (few o) _ says take), taken_step _ _ o.rows (few o) _ says inv.1 c.in-Some.ensures.steps.0 c.in-Some.ensures.steps.1 take)

pub shape_of-w : goal.shape_of-w
shape_of-w c =
    let f = within_trans (within_cleared TAKEN TAKEN_END (omega arith) c.clear.ensures) c.loop-y.invariant.0 in
    f.len

pub returns : goal.returns
returns c =
    let o = c.requires.0.opened in
    taken_end _ _ o.rows (few o) _ (rows_and (rows_at c.rows.ensures (says_rows o.known.tested.kinds.atomic)) (rows_at c.rows-2.ensures (says_rows o.known.tested.accesses.reads)) (started c.into_iter-y-iterator.ensures.into_iter_gives c.bitand-y-items.ensures)) _ c.in-None.ensures.steps.0 c.loop-y.invariant.1.1 (within_trans (within_cleared TAKEN TAKEN_END (omega arith) c.clear.ensures) c.loop-y.invariant.0)
