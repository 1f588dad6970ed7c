use Rattle.sets_of_rows.specs.Rows.{started}
use mathlib.Core.Path.{sym, ◌∙◌}
use native.Mathlib.Omega.{arith}
use Rattle.sets_of_rows.specs.Walk.{walk_less}
use Rattle.sets_of_rows.specs.Sift.{sift_begin, sift_turn, sift_end}
use Rattle.sets_of_table.specs.Ask.{few}
use Rattle.sets_choice.specs.Choosing.{in_column_lem, writers_rows}
use Rattle.sets_grids.specs.Filling.{one_more}
use Rattle.sets_choice.proofs.writers_before.Goals as goal

pub get-requires : goal.get-requires
get-requires c =
    let pre = c.requires in
    let b = few pre.1.given.opened in
    let r = pre.1.given.room in
    omega (arith, pre.0, b, r)

pub rows-requires : goal.rows-requires
rows-requires c = let a = c.requires.1.given.opened.space in omega arith

pub loop-z-init : goal.loop-z-init
loop-z-init c = sift_begin _ _ _ c.none-all.ensures

pub get-requires-in-loop-z : goal.get-requires-in-loop-z
get-requires-in-loop-z c =
    let b = c.in-Some.ensures.steps.0.bound in let r = c.requires.1.given.room in omega (arith, b, r)

pub has-ordered-requires : goal.has-ordered-requires
has-ordered-requires c =
    let b = few c.requires.1.given.opened in omega (arith, c.requires.0, b)

pub bit-requires : goal.bit-requires
bit-requires c = c.in-Some.ensures.steps.0.bound

pub loop-z-preserved : goal.loop-z-preserved
loop-z-preserved c =
    sift_turn _ _ _ c.loop-z.invariant c.in-Some.ensures.steps.0 c.in-Some.ensures.steps.1 (in_column_lem _ _ _ c.get-in-loop-z.ensures c.has-ordered.ensures)
    (one_more _ _ _ _ _ _ c.bit.ensures c.only_if.ensures c.bitor_assign.ensures.after)

pub returns : goal.returns
returns c =
    let pre = c.requires in
    let sifted = sift_end _ _ _ _ c.in-None.ensures.steps.0 c.loop-z.invariant.1 in
    writers_rows pre.1.given.opened pre.1.judging _ _ _ _ _ pre.0 c.get.ensures c.rows.ensures (started c.into_iter-z-iterator.ensures.into_iter_gives c.bitand-z-items.ensures) sifted
