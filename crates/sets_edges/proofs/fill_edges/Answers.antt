use mathlib.Core.Path.{refl, sym, ◌∙◌}
use Rattle.sets_of_rows.specs.Walk.{walk_less, walk_in}
use Rattle.sets_of_rows.specs.Rows.{rows_at}
use Rattle.sets_of_table.specs.Known.{says_rows}
use Rattle.sets_of_table.specs.Ask.{few}
use Rattle.sets_grids.specs.Filling.{member_in}
use Rattle.sets_edges.specs.Edges.{edging_begin, edging_turn, edging_end}
use native.Mathlib.Omega.{arith}
use Rattle.sets_edges.proofs.fill_edges.Goals as goal

pub put_orders-requires : goal.put_orders-requires
put_orders-requires c = (few c.requires.1.given.opened, c.requires.1.given.room)

pub rows-y-items-requires : goal.rows-y-items-requires
rows-y-items-requires c =
    let a = c.requires.1.given.opened.space in omega arith

pub loop-y-init : goal.loop-y-init
loop-y-init c =
    (refl, edging_begin _ _ c.requires.1.given.opened c.requires.1.judging c.put_orders.ensures _ (rows_at (c.into_iter-y-iterator.ensures.into_iter_gives ∙ c.rows-y-items.ensures) (says_rows c.requires.1.given.opened.known.tested.accesses.reads)))

pub bounds-src-y : goal.bounds-src-y
bounds-src-y c =
    let m = member_in _ (rows_at (c.into_iter-y-iterator.ensures.into_iter_gives ∙ c.rows-y-items.ensures) (says_rows c.requires.1.given.opened.known.tested.accesses.reads)) (walk_in c.loop-y.invariant.1.walk c.in-Some.ensures.steps.0) in let l = m.0 in let e = c.requires.0.each in omega (arith, l, e)

pub overflow_cast-src : goal.overflow_cast-src
overflow_cast-src c = omega (arith, c.type_inv.src c.in-Some.y)

pub put_reads-requires : goal.put_reads-requires
put_reads-requires c =
    let m = member_in _ (rows_at (c.into_iter-y-iterator.ensures.into_iter_gives ∙ c.rows-y-items.ensures) (says_rows c.requires.1.given.opened.known.tested.accesses.reads)) (walk_in c.loop-y.invariant.1.walk c.in-Some.ensures.steps.0) in
    let r = c.requires.1.given.room in
    let f = c.put_orders.ensures.frame.len in
    let g = c.loop-y.invariant.1.frame.len in
    (m.0, record { few = few c.requires.1.given.opened; sets = c.requires.1.given.opened.space; work = omega (arith, r, f, g) })

pub loop-y-preserved : goal.loop-y-preserved
loop-y-preserved c =
    let inv = c.loop-y.invariant in
    (c.put_reads.ensures.frame.len ∙ inv.0, edging_turn _ _ c.requires.1.given.opened c.requires.1.judging c.put_orders.ensures _ (rows_at (c.into_iter-y-iterator.ensures.into_iter_gives ∙ c.rows-y-items.ensures) (says_rows c.requires.1.given.opened.known.tested.accesses.reads)) inv.1 c.in-Some.ensures.steps.0 c.in-Some.ensures.steps.1 c.put_reads.ensures)

pub returns : goal.returns
returns c =
    edging_end _ _ c.requires.1.given.opened c.requires.1.judging c.put_orders.ensures _ (rows_at (c.into_iter-y-iterator.ensures.into_iter_gives ∙ c.rows-y-items.ensures) (says_rows c.requires.1.given.opened.known.tested.accesses.reads)) _ c.requires.0.sourced c.in-None.ensures.steps.0 c.loop-y.invariant.1
