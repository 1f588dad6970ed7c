use mathlib.Core.Path.{refl, sym, ◌∙◌}
use native.Mathlib.Omega.{arith}
use Rattle.model.specs.Table.{decode}
use Rattle.bits.specs.Within.{within_trans, within_cleared}
use Rattle.sets_of_rows.specs.Walk.{walk_less, walk_in}
use Rattle.sets_of_rows.specs.Filling.{fill_begin, fill_turn, fill_end}
use Rattle.sets_of_rows.specs.Rows.{rows_at}
use Rattle.sets_of_table.specs.Known.{says_rows}
use Rattle.sets_of_table.specs.Ask.{few}
use Rattle.sets_grids.specs.Filling.{member_in, filled_made}
use Rattle.work_area.specs.Regions.{SYNC, SYNC_END}
use Rattle.sets_grids.specs.Grid.{grid_kept}
use Rattle.sets_grids.specs.Given.{given_kept}
use Rattle.sets_sync.specs.Sync.{sync_only}
use borrow.Author.Rules.{rules}
use Rattle.sets_sync.proofs.fill_sync.Goals as goal

pub rows-a-items-requires : goal.rows-a-items-requires
rows-a-items-requires c =
    let a = c.requires.0.opened.space in omega arith

pub loop-a-init : goal.loop-a-init
loop-a-init c = (refl, fill_begin _ _ _ _ (search rules) c.clear.ensures)

pub sync_row-x-requires : goal.sync_row-x-requires
unfolding decode
sync_row-x-requires c =
    let pre = c.requires in
    let o = pre.0.opened in
    let m = member_in _ (rows_at (c.into_iter-a-iterator.ensures.into_iter_gives ∙ c.rows-a-items.ensures) (says_rows o.known.tested.orders.releases)) (walk_in c.loop-a.invariant.1.walk c.in-Some.ensures.steps.0) in
    let f = within_trans (within_cleared SYNC SYNC_END (omega arith) c.clear.ensures) c.loop-a.invariant.1.frame in
    (record { low = m.0; is = m.1 }, given_kept f pre.0, record { taken = grid_kept (λ h. omega arith) f pre.1.taken; passed = grid_kept (λ h. omega arith) f pre.1.passed })

pub loop-a-preserved : goal.loop-a-preserved
loop-a-preserved c =
    let inv = c.loop-a.invariant in
    let put = c.put.ensures in
    (put.frame.len ∙ inv.0, fill_turn _ _ _ _ inv.1 c.in-Some.ensures.steps.0 c.in-Some.ensures.steps.1 c.sync_row-x.ensures.is put)

pub returns : goal.returns
returns c =
    let o = c.requires.0.opened in
    filled_made _ (few o) (rows_at (c.into_iter-a-iterator.ensures.into_iter_gives ∙ c.rows-a-items.ensures) (says_rows o.known.tested.orders.releases)) (λ i j l m e. sync_only _ i j e)
    (fill_end _ _ _ _ c.clear.ensures c.in-None.ensures.steps.0 c.loop-a.invariant.1)
