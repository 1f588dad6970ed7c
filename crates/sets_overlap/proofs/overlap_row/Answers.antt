use native.Mathlib.Omega.{arith}
use Rattle.model.specs.Table.{decode}
use Rattle.sets_of_rows.specs.First.{first_there, first_said}
use Rattle.sets_of_table.specs.Ask.{few}
use Rattle.sets_overlap.specs.Overlap.{first_here}
use Rattle.sets_overlap.specs.Locations.{row_by_head}
use Rattle.sets_overlap.proofs.overlap_row.Goals as goal

pub get-requires : goal.get-requires
get-requires c = let o = c.requires.2.opened in let f = few o in let a = o.space in omega (arith, c.requires.0)

pub unwrap-j-requires : goal.unwrap-j-requires
unfolding decode
unwrap-j-requires c = first_there _ _ c.first.ensures (first_here c.requires.2.opened _ _ c.requires.0 c.requires.1 c.get.ensures)

pub get-requires-2 : goal.get-requires-2
get-requires-2 c =
    let f = first_said _ c.first.ensures c.unwrap-j.ensures in let b = f.bound in let a = c.requires.2.near.long in omega arith

pub returns : goal.returns
unfolding decode
returns c =
    let pre = c.requires in
    row_by_head pre.2.opened pre.0 pre.1 c.get.ensures (first_said _ c.first.ensures c.unwrap-j.ensures) pre.2.near c.get-2.ensures
