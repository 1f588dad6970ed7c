use Rattle.sets_of_rows.specs.Rows.{started}
use mathlib.Core.Path.{sym, ◌∙◌}
use Rattle.model.specs.Table.{decode}
use Rattle.sets_of_rows.specs.Walk.{walk_less, walk_in, search_begin, search_turn, search_found, search_end}
use Rattle.sets_of_rows.specs.Rows.{rows_in_lem}
use Rattle.sets_of_table.specs.Ask.{few}
use Rattle.sets_grids.specs.Grid.{grid_at}
use Rattle.sets_grids.specs.Location.{judged}
use Rattle.sets_grids.specs.Filling.{member_in}
use Rattle.sets_overwritten.specs.Over.{writers_rows, writer_off, writer_on, writer_found, writer_clear, writer_apart, writer_none, lowest_bit, byte_lowest}
use native.Mathlib.Omega.{arith}
use Rattle.sets_overwritten.proofs.overwritten_by.Goals as goal

pub get-requires : goal.get-requires
get-requires c = let b = few c.requires.2.given.opened in let r = c.requires.2.given.room in omega (arith, c.requires.1.low, b, r)

pub rows-requires : goal.rows-requires
rows-requires c = let a = c.requires.2.given.opened.space in omega arith

pub get-requires-2 : goal.get-requires-2
get-requires-2 c =
    let b = few c.requires.2.given.opened in let r = c.requires.2.given.room in omega (arith, c.requires.0, b, r)

pub loop-z-init : goal.loop-z-init
loop-z-init c =
    search_begin _ _ (writer_off _ _ _ _ (writers_rows c.requires.2.given.opened c.requires.2.judging _ _ _ _ _ _ _ c.requires.0 c.requires.1.low c.get.ensures c.rows.ensures c.bitand-over.ensures c.get-2.ensures (started c.into_iter-z-iterator.ensures.into_iter_gives c.bitand-z-items.ensures)))

pub get-requires-in-loop-z : goal.get-requires-in-loop-z
get-requires-in-loop-z c =
    let b = few c.requires.2.given.opened in let r = c.requires.2.given.room in let m = member_in _ (writers_rows c.requires.2.given.opened c.requires.2.judging _ _ _ _ _ _ _ c.requires.0 c.requires.1.low c.get.ensures c.rows.ensures c.bitand-over.ensures c.get-2.ensures (started c.into_iter-z-iterator.ensures.into_iter_gives c.bitand-z-items.ensures)) (walk_in c.loop-z.invariant.0 c.in-Some.ensures.steps.0) in omega (arith, m.0, b, r)

pub has-requires : goal.has-requires
has-requires c =
    let b = few c.requires.2.given.opened in omega (arith, c.requires.1.low, b)

pub overwrites-m-requires : goal.overwrites-m-requires
overwrites-m-requires c =
    let m = member_in _ (writers_rows c.requires.2.given.opened c.requires.2.judging _ _ _ _ _ _ _ c.requires.0 c.requires.1.low c.get.ensures c.rows.ensures c.bitand-over.ensures c.get-2.ensures (started c.into_iter-z-iterator.ensures.into_iter_gives c.bitand-z-items.ensures)) (walk_in c.loop-z.invariant.0 c.in-Some.ensures.steps.0) in (record { first = c.requires.0; second = m.0; third = c.requires.1.low }, judged c.requires.2)

pub overflow_cast-result : goal.overflow_cast-result
overflow_cast-result c =
    let b = few c.requires.2.given.opened in omega (arith, c.requires.1.low, b)

pub overflow_cast-result-then-m-gt0 : goal.overflow_cast-result-then-m-gt0
overflow_cast-result-then-m-gt0 c =
    omega (arith, c.in-Some.ensures.steps.0.bound)

pub start-requires : goal.start-requires
start-requires c =
    let b = few c.requires.2.given.opened in omega (arith, c.requires.1.low, b)

pub overflow_add-result : goal.overflow_add-result
overflow_add-result c = let g = lowest_bit _ _ c.overwrites-m.ensures c.if-m-gt0.true in let b = c.start.ensures.1 in omega (arith, g.0, b)

pub overflow_cast-result-then-m-gt0-2 : goal.overflow_cast-result-then-m-gt0-2
unfolding decode
overflow_cast-result-then-m-gt0-2 c =
    let m = member_in _ (writers_rows c.requires.2.given.opened c.requires.2.judging _ _ _ _ _ _ _ c.requires.0 c.requires.1.low c.get.ensures c.rows.ensures c.bitand-over.ensures c.get-2.ensures (started c.into_iter-z-iterator.ensures.into_iter_gives c.bitand-z-items.ensures)) (walk_in c.loop-z.invariant.0 c.in-Some.ensures.steps.0) in
    let e = c.requires.2.given.opened.rows in
    let g = byte_lowest _ _ _ _ _ c.requires.2.given.opened.fit.sized c.requires.2.given.opened.fit.ended (omega (arith, c.requires.1.low, e)) (omega (arith, m.0, e)) c.overwrites-m.ensures c.if-m-gt0.true in
    let b = c.start.ensures.0 in
    omega (arith, g, b)

pub returns-then-m-gt0 : goal.returns-then-m-gt0
unfolding decode
returns-then-m-gt0 c =
    let m = member_in _ (writers_rows c.requires.2.given.opened c.requires.2.judging _ _ _ _ _ _ _ c.requires.0 c.requires.1.low c.get.ensures c.rows.ensures c.bitand-over.ensures c.get-2.ensures (started c.into_iter-z-iterator.ensures.into_iter_gives c.bitand-z-items.ensures)) (walk_in c.loop-z.invariant.0 c.in-Some.ensures.steps.0) in
    let h = sym (rows_in_lem (grid_at c.requires.2.judging.some m.0 c.get-in-loop-z.ensures) _ c.requires.1.low) ∙ sym c.has.ensures ∙ c.if-has.true in
    let hit = writer_on _ _ _ _ c.requires.2.given.opened.rows _ _ c.requires.0 m.0 m.1 h c.overwrites-m.ensures c.if-m-gt0.true in
    writer_found _ _ _ _ c.requires.2.given.opened.rows _ _ _ m.0 (search_found _ _ (writer_off _ _ _ _ (writers_rows c.requires.2.given.opened c.requires.2.judging _ _ _ _ _ _ _ c.requires.0 c.requires.1.low c.get.ensures c.rows.ensures c.bitand-over.ensures c.get-2.ensures (started c.into_iter-z-iterator.ensures.into_iter_gives c.bitand-z-items.ensures))) c.loop-z.invariant c.in-Some.ensures.steps.0 hit) hit c.overwrites-m.ensures c.if-m-gt0.true c.start.ensures.0

pub loop-z-smaller-else-m-gt0 : goal.loop-z-smaller-else-m-gt0
loop-z-smaller-else-m-gt0 c =
    walk_less c.in-Some.ensures.steps.0 c.in-Some.ensures.steps.1

pub loop-z-preserved-else-m-gt0 : goal.loop-z-preserved-else-m-gt0
loop-z-preserved-else-m-gt0 c =
    search_turn _ _ (writer_off _ _ _ _ (writers_rows c.requires.2.given.opened c.requires.2.judging _ _ _ _ _ _ _ c.requires.0 c.requires.1.low c.get.ensures c.rows.ensures c.bitand-over.ensures c.get-2.ensures (started c.into_iter-z-iterator.ensures.into_iter_gives c.bitand-z-items.ensures))) c.loop-z.invariant c.in-Some.ensures.steps.0 c.in-Some.ensures.steps.1 (writer_clear _ _ _ _ _ _ c.overwrites-m.ensures c.if-m-gt0.false)

pub loop-z-preserved : goal.loop-z-preserved
loop-z-preserved c =
    let m = member_in _ (writers_rows c.requires.2.given.opened c.requires.2.judging _ _ _ _ _ _ _ c.requires.0 c.requires.1.low c.get.ensures c.rows.ensures c.bitand-over.ensures c.get-2.ensures (started c.into_iter-z-iterator.ensures.into_iter_gives c.bitand-z-items.ensures)) (walk_in c.loop-z.invariant.0 c.in-Some.ensures.steps.0) in
    search_turn _ _ (writer_off _ _ _ _ (writers_rows c.requires.2.given.opened c.requires.2.judging _ _ _ _ _ _ _ c.requires.0 c.requires.1.low c.get.ensures c.rows.ensures c.bitand-over.ensures c.get-2.ensures (started c.into_iter-z-iterator.ensures.into_iter_gives c.bitand-z-items.ensures))) c.loop-z.invariant c.in-Some.ensures.steps.0 c.in-Some.ensures.steps.1 (writer_apart _ _ _ _ _ (sym (rows_in_lem (grid_at c.requires.2.judging.some m.0 c.get-in-loop-z.ensures) _ c.requires.1.low) ∙ sym c.has.ensures ∙ c.if-has.false))

pub returns : goal.returns
returns c =
    writer_none _ _ _ _ c.requires.2.given.opened.rows (few c.requires.2.given.opened) (search_end _ _ (writer_off _ _ _ _ (writers_rows c.requires.2.given.opened c.requires.2.judging _ _ _ _ _ _ _ c.requires.0 c.requires.1.low c.get.ensures c.rows.ensures c.bitand-over.ensures c.get-2.ensures (started c.into_iter-z-iterator.ensures.into_iter_gives c.bitand-z-items.ensures))) _ c.in-None.ensures.steps.0 c.loop-z.invariant.1)
