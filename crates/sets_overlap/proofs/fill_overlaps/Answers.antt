use mathlib.Core.Path.{refl, sym, ◌∙◌}
use native.Mathlib.Omega.{arith}
use Rattle.model.specs.Table.{decode}
use Rattle.sets_of_rows.specs.Walk.{walk_less, walk_in}
use Rattle.sets_of_rows.specs.Filling.{fill_begin, fill_turn, fill_end}
use Rattle.sets_of_rows.specs.Rows.{rows_at}
use Rattle.sets_of_table.specs.Known.{says_rows}
use Rattle.sets_of_table.specs.Ask.{few}
use Rattle.sets_grids.specs.Filling.{member_in, filled_made}
use Rattle.sets_overlap.specs.Overlap.{over_only}
use borrow.Author.Rules.{rules}
use Rattle.sets_overlap.proofs.fill_overlaps.Goals as goal

pub meet-requires : goal.meet-requires
meet-requires c = (c.requires.opened, refl)

pub rows-i-items-requires : goal.rows-i-items-requires
rows-i-items-requires c =
    let a = c.requires.opened.space in omega arith

pub loop-i-init : goal.loop-i-init
loop-i-init c =
    (refl, fill_begin _ _ _ _ (search rules) c.clear.ensures, c.meet.ensures)

pub overlap_row-x-requires : goal.overlap_row-x-requires
unfolding decode
overlap_row-x-requires c =
    let o = c.requires.opened in
    let inv = c.loop-i.invariant in
    let m = member_in _ (rows_at (c.into_iter-i-iterator.ensures.into_iter_gives ∙ c.rows-i-items.ensures) (says_rows o.known.tested.accesses.access)) (walk_in inv.1.walk c.in-Some.ensures.steps.0) in
    (m.0, m.1, record { opened = o; near = inv.2 })

pub loop-i-preserved : goal.loop-i-preserved
loop-i-preserved c =
    let inv = c.loop-i.invariant in
    let put = c.put.ensures in
    (put.frame.len ∙ inv.0, fill_turn _ _ _ _ inv.1 c.in-Some.ensures.steps.0 c.in-Some.ensures.steps.1 c.overlap_row-x.ensures.is put, inv.2)

pub returns : goal.returns
returns c =
    let o = c.requires.opened in
    filled_made _ (few o) (rows_at (c.into_iter-i-iterator.ensures.into_iter_gives ∙ c.rows-i-items.ensures) (says_rows o.known.tested.accesses.access)) (λ i j l m e. over_only o i j l m e)
    (fill_end _ _ _ _ c.clear.ensures c.in-None.ensures.steps.0 c.loop-i.invariant.1)
