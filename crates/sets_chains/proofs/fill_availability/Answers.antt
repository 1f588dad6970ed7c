use mathlib.Core.Path.{sym, ◌∙◌}
use native.Mathlib.Omega.{arith}
use Rattle.model.specs.Table.{decode}
use Rattle.sets_of_rows.specs.Rows.{rows_at}
use Rattle.sets_of_rows.specs.Walk.{walk_less, walk_in}
use Rattle.sets_of_table.specs.Known.{says_rows}
use Rattle.sets_grids.specs.Available.{makes}
use Rattle.sets_grids.specs.Filling.{member_in}
use Rattle.sets_chains.specs.Availability.{make_begin, make_turn, make_end}
use Rattle.sets_chains.proofs.fill_availability.Goals as goal

pub prepare-requires : goal.prepare-requires
unfolding decode
prepare-requires c = let pre = c.requires in (c.chains-chains.ensures, pre.0, pre.1)

pub rows-a-items-requires : goal.rows-a-items-requires
rows-a-items-requires c =
    let a = c.requires.0.opened.space in omega arith

pub loop-a-init : goal.loop-a-init
loop-a-init c = make_begin _ c.prepare.ensures.ready

pub make-requires : goal.make-requires
unfolding decode makes
make-requires c =
    let pre = c.requires in
    let inv = c.loop-a.invariant in
    let rows = rows_at (c.into_iter-a-iterator.ensures.into_iter_gives ∙ c.rows-a-items.ensures) (says_rows pre.0.opened.known.tested.marked.available) in
    let m = member_in _ rows (walk_in inv.walk c.in-Some.ensures.steps.0) in
    (record { low = m.0; makes = m.1 }, inv.ready)

pub loop-a-preserved : goal.loop-a-preserved
loop-a-preserved c =
    make_turn c.loop-a.invariant c.in-Some.ensures.steps.0 c.in-Some.ensures.steps.1 c.make.ensures

pub shape_of-w : goal.shape_of-w
shape_of-w c =
    c.loop-a.invariant.frame.len ∙ c.prepare.ensures.frame.len

pub returns : goal.returns
unfolding makes
returns c =
    let pre = c.requires in
    let rows = rows_at (c.into_iter-a-iterator.ensures.into_iter_gives ∙ c.rows-a-items.ensures) (says_rows pre.0.opened.known.tested.marked.available) in
    make_end rows c.in-None.ensures.steps.0 c.prepare.ensures.frame c.loop-a.invariant
