use native.Mathlib.Omega.{arith}
use Rattle.model.specs.Table.{decode}
use Rattle.sets_of_table.specs.Ask.{few}
use Rattle.sets_mutual.specs.Mutual.{mutual_rows_lem}
use Rattle.sets_mutual.proofs.mutual_row.Goals as goal

pub get-requires : goal.get-requires
get-requires c =
    let pre = c.requires in
    let a = pre.2.space in
    let b = few pre.2 in
    omega (arith, pre.0)

pub without-requires : goal.without-requires
without-requires c =
    let pre = c.requires in
    let b = few pre.2 in
    omega (arith, pre.0)

pub returns : goal.returns
unfolding decode
returns c =
    let pre = c.requires in
    mutual_rows_lem pre.2 _ _ _ _ _ _ _ pre.0 pre.1 c.get.ensures c.rows.ensures c.bitand-here.ensures c.together.ensures c.bitand.ensures c.without.ensures
