use native.Mathlib.Omega.{arith}
use Rattle.model.specs.Table.{decode}
use Rattle.sets_of_table.specs.Ask.{few}
use Rattle.sets_mutual.specs.Later.{later_rows}
use Rattle.sets_mutual.proofs.later.later_row.Goals as goal

pub get-requires : goal.get-requires
get-requires c =
    let pre = c.requires in
    let a = pre.1.room in
    let b = few pre.1.opened in
    omega (arith, pre.0.low)

pub rows-requires : goal.rows-requires
rows-requires c = let a = c.requires.1.opened.space in omega arith

pub later_than-requires : goal.later_than-requires
later_than-requires c =
    let b = few c.requires.1.opened in omega (arith, c.requires.0.low)

pub returns : goal.returns
unfolding decode
returns c =
    let pre = c.requires in
    later_rows pre.1.opened pre.2 _ _ _ _ _ pre.0.low pre.0.is c.get.ensures c.rows.ensures c.bitand-writers.ensures c.later_than.ensures
