use Rattle.sets_of_table.specs.Ask.{few}
use Rattle.sets_grids.specs.Given.{fitting}
use Rattle.sets_location.specs.Placed.{adds_cong, over_rows, public_write_lem, not_public, told_over, told_bits}
use native.Mathlib.Omega.{arith}
use Rattle.sets_location.proofs.place_row.Goals as goal

pub ordered_after-before-requires : goal.ordered_after-before-requires
ordered_after-before-requires c = (record { low = c.requires.2.low; is = c.requires.0 }, c.requires.1)

pub get-requires : goal.get-requires
get-requires c =
    let b = few c.requires.1.given.opened in omega (arith, c.requires.2.low, b, c.requires.1.given.room)

pub without-over-requires : goal.without-over-requires
without-over-requires c =
    let b = few c.requires.1.given.opened in omega (arith, c.requires.2.low, b)

pub rows-requires : goal.rows-requires
rows-requires c =
    let r = c.requires.1.given.opened.space in omega (arith, r)

pub rows-requires-2 : goal.rows-requires-2
rows-requires-2 c =
    let r = c.requires.1.given.opened.space in omega (arith, r)

pub has-requires : goal.has-requires
has-requires c =
    let b = few c.requires.1.given.opened in omega (arith, c.requires.2.low, b)

pub place_write-requires : goal.place_write-requires
place_write-requires c =
    let pre = c.requires in
    let o = pre.1.given.opened in
    (pre.1, public_write_lem o _ pre.2.low pre.0 _ _ _ _ c.ordered_after-before.ensures (over_rows o _ pre.2.low pre.0 pre.1.locating _ _ c.get.ensures c.without-over.ensures) c.rows.ensures c.rows-2.ensures c.bitand-public.ensures c.has.ensures c.if-has.true, pre.2)

pub shape_of-w-then-has : goal.shape_of-w-then-has
shape_of-w-then-has c = c.place_write.ensures.frame.len

pub returns-then-has : goal.returns-then-has
returns-then-has c = c.place_write.ensures

pub put_whole-requires : goal.put_whole-requires
put_whole-requires c =
    let pre = c.requires in
    let o = pre.1.given.opened in
    (fitting pre.1.given, told_over o _ pre.2.low pre.0 _ c.ordered_after-before.ensures (over_rows o _ pre.2.low pre.0 pre.1.locating _ _ c.get.ensures c.without-over.ensures) c.bitand.ensures, pre.2.empty)

pub shape_of-w : goal.shape_of-w
shape_of-w c = c.put_whole.ensures.frame.len

pub returns : goal.returns
returns c =
    let pre = c.requires in
    let o = pre.1.given.opened in
    adds_cong
    (told_bits o _ pre.2.low pre.0 _ c.ordered_after-before.ensures (over_rows o _ pre.2.low pre.0 pre.1.locating _ _ c.get.ensures c.without-over.ensures) c.bitand.ensures
    (not_public o _ pre.2.low pre.0 _ _ _ _ c.rows.ensures c.rows-2.ensures c.bitand-public.ensures c.has.ensures c.if-has.false))
    c.put_whole.ensures
