use mathlib.Core.Path.{refl, sym, ◌∙◌}
use native.Mathlib.Omega.{arith}
use Rattle.model.specs.Table.{decode}
use Rattle.bits.specs.Within.{within_trans, within_cleared}
use Rattle.sets_of_rows.specs.Walk.{walk_less, walk_in}
use Rattle.sets_of_rows.specs.Filling.{fill_begin, fill_turn, fill_end}
use Rattle.sets_of_rows.specs.Rows.{rows_at}
use Rattle.sets_of_table.specs.Known.{says_rows}
use Rattle.sets_of_table.specs.Ask.{few}
use Rattle.sets_grids.specs.Filling.{member_in, filled_made}
use Rattle.sets_grids.specs.Regions.{LATER, LATER_END}
use Rattle.sets_grids.specs.Grid.{grid_kept}
use Rattle.sets_grids.specs.Given.{given_kept}
use Rattle.sets_mutual.specs.Later.{later_only}
use borrow.Author.Rules.{rules}
use Rattle.sets_mutual.proofs.later.fill_later.Goals as goal

pub rows-i-items-requires : goal.rows-i-items-requires
rows-i-items-requires c =
    let a = c.requires.0.opened.space in omega arith

pub loop-i-init : goal.loop-i-init
loop-i-init c = (refl, fill_begin _ _ _ _ (search rules) c.clear.ensures)

pub later_row-x-requires : goal.later_row-x-requires
unfolding decode
later_row-x-requires c =
    let pre = c.requires in
    let o = pre.0.opened in
    let small = few o in
    let m = member_in _ (rows_at (c.into_iter-i-iterator.ensures.into_iter_gives ∙ c.rows-i-items.ensures) (says_rows o.known.tested.kinds.ranked)) (walk_in c.loop-i.invariant.1.walk c.in-Some.ensures.steps.0) in
    let f = within_trans (within_cleared LATER LATER_END (omega arith) c.clear.ensures) c.loop-i.invariant.1.frame in
    (record { low = m.0; is = m.1 }, given_kept f pre.0, grid_kept (λ h. absurd (omega arith)) f pre.1)

pub loop-i-preserved : goal.loop-i-preserved
loop-i-preserved c =
    let inv = c.loop-i.invariant in
    let put = c.put.ensures in
    (put.frame.len ∙ inv.0, fill_turn _ _ _ _ inv.1 c.in-Some.ensures.steps.0 c.in-Some.ensures.steps.1 c.later_row-x.ensures.is put)

pub returns : goal.returns
returns c =
    let o = c.requires.0.opened in
    filled_made _ (few o) (rows_at (c.into_iter-i-iterator.ensures.into_iter_gives ∙ c.rows-i-items.ensures) (says_rows o.known.tested.kinds.ranked)) (λ i j l m e. later_only _ i j e)
    (fill_end _ _ _ _ c.clear.ensures c.in-None.ensures.steps.0 c.loop-i.invariant.1)
