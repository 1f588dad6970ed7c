use mathlib.Core.Path.{sym, ◌∙◌}
use native.Mathlib.Omega.{arith}
use Rattle.bits.specs.Within.{within_refl, within_trans, within_widen, within_cleared}
use Rattle.sets_of_rows.specs.Walk.{walk_less, walk_in}
use Rattle.sets_of_rows.specs.Rows.{rows_at}
use Rattle.sets_of_table.specs.Known.{says_rows}
use Rattle.sets_of_table.specs.Ask.{few}
use Rattle.sets_grids.specs.Regions.{HEADS, HEADS_END}
use Rattle.sets_grids.specs.Grid.{grid_kept}
use Rattle.sets_grids.specs.Given.{given_kept}
use Rattle.sets_grids.specs.Filling.{member_in}
use Rattle.sets_sequences.specs.Heads.{heads_begin, heads_turn, heads_end, cleared, ranks_of}
use borrow.Author.Rules.{rules}
use Rattle.sets_sequences.proofs.fill_heads.Goals as goal

pub rows-h-items-requires : goal.rows-h-items-requires
rows-h-items-requires c =
    let a = c.requires.0.opened.space in omega arith

pub loop-h-init : goal.loop-h-init
loop-h-init c =
    let o = c.requires.0.opened in
    let small = few o in
    (within_refl _ _ _, heads_begin _ _ small _ (rows_at (c.into_iter-h-iterator.ensures.into_iter_gives ∙ c.rows-h-items.ensures) (says_rows o.known.tested.kinds.ranked)) (λ k j l. cleared HEADS _ (search rules) c.clear.ensures k j (omega arith)))

pub put_bit-requires : goal.put_bit-requires
put_bit-requires c =
    let b = c.in-Some.ensures.steps.0.bound in
    let f = within_trans (within_cleared HEADS HEADS_END (omega arith) c.clear.ensures) c.loop-h.invariant.0 in
    let e = f.len in
    let r = c.requires.0.room in
    (omega arith, b)

pub end_of-end-requires : goal.end_of-end-requires
end_of-end-requires c =
    let pre = c.requires in
    let o = pre.0.opened in
    let small = few o in
    let b = c.in-Some.ensures.steps.0.bound in
    let m = member_in _ (rows_at (c.into_iter-h-iterator.ensures.into_iter_gives ∙ c.rows-h-items.ensures) (says_rows o.known.tested.kinds.ranked)) (walk_in c.loop-h.invariant.1.0 c.in-Some.ensures.steps.0) in
    let f = within_trans (within_trans (within_cleared HEADS HEADS_END (omega arith) c.clear.ensures) c.loop-h.invariant.0) (within_widen HEADS HEADS_END (omega arith) (omega arith) c.put_bit.ensures.frame) in
    (m.0, given_kept f pre.0, grid_kept (λ h. absurd (omega arith)) f pre.1)

pub add_head-requires : goal.add_head-requires
add_head-requires c =
    let pre = c.requires in
    let o = pre.0.opened in
    let small = few o in
    let b = c.in-Some.ensures.steps.0.bound in
    let m = member_in _ (rows_at (c.into_iter-h-iterator.ensures.into_iter_gives ∙ c.rows-h-items.ensures) (says_rows o.known.tested.kinds.ranked)) (walk_in c.loop-h.invariant.1.0 c.in-Some.ensures.steps.0) in
    let f = within_trans (within_trans (within_cleared HEADS HEADS_END (omega arith) c.clear.ensures) c.loop-h.invariant.0) (within_widen HEADS HEADS_END (omega arith) (omega arith) c.put_bit.ensures.frame) in
    let bytes = rw c.row_bytes.ensures at c.first_byte.ensures in
    (record { low = m.0; ends = c.end_of-end.ensures; ranks = ranks_of _ _ _ _ bytes }, given_kept f pre.0, grid_kept (λ h. absurd (omega arith)) f pre.1)

pub loop-h-preserved : goal.loop-h-preserved
loop-h-preserved c =
    let o = c.requires.0.opened in
    let b = c.in-Some.ensures.steps.0.bound in
    let inv = c.loop-h.invariant in
    let put = c.put_bit.ensures in
    let add = c.add_head.ensures in (
      within_trans (within_trans inv.0 (within_widen HEADS HEADS_END (omega arith) (omega arith) put.frame)) add.frame,
      heads_turn _ _ (few o) _ (rows_at (c.into_iter-h-iterator.ensures.into_iter_gives ∙ c.rows-h-items.ensures) (says_rows o.known.tested.kinds.ranked)) inv.1 c.in-Some.ensures.steps.0 c.in-Some.ensures.steps.1 put add,
    )

pub shape_of-w : goal.shape_of-w
shape_of-w c =
    let f = within_trans (within_cleared HEADS HEADS_END (omega arith) c.clear.ensures) c.loop-h.invariant.0 in
    f.len

pub returns : goal.returns
returns c =
    let o = c.requires.0.opened in
    heads_end _ _ (few o) _ (rows_at (c.into_iter-h-iterator.ensures.into_iter_gives ∙ c.rows-h-items.ensures) (says_rows o.known.tested.kinds.ranked)) _ c.in-None.ensures.steps.0 c.loop-h.invariant.1.1 (within_trans (within_cleared HEADS HEADS_END (omega arith) c.clear.ensures) c.loop-h.invariant.0)
