use native.Mathlib.Omega.{arith}
use Rattle.model.specs.Table.{decode}
use Rattle.sets_of_table.specs.Ask.{few, there}
use Rattle.sets_sequences.specs.Taken.{gets_rows, class_access}
use Rattle.sets_sequences.proofs.taken.getters.Goals as goal

pub class-requires : goal.class-requires
class-requires c = let b = few c.requires.2 in omega (arith, c.requires.0)

pub get-class-requires : goal.get-class-requires
unfolding decode
get-class-requires c =
    let pre = c.requires in
    let o = pre.2 in
    let k = o.fit.classed _ (there o _ pre.0) (class_access _ pre.1) in
    let e = c.class.ensures in
    let a = o.space in
    omega arith

pub after-requires : goal.after-requires
after-requires c = (c.requires.0, c.requires.2)

pub rows-requires : goal.rows-requires
rows-requires c = let a = c.requires.2.space in omega arith

pub bit-requires : goal.bit-requires
bit-requires c =
    let b = few c.requires.2 in omega (arith, c.requires.0)

pub rows-requires-2 : goal.rows-requires-2
rows-requires-2 c =
    let a = c.requires.2.space in omega arith

pub returns : goal.returns
unfolding decode
returns c =
    let pre = c.requires in
    gets_rows pre.2 _ _ _ _ _ _ _ _ _ _ _ pre.0 pre.1 c.class.ensures c.get-class.ensures c.after.ensures c.rows.ensures c.bitand-after.ensures c.bitand.ensures c.bit.ensures c.bitor-all.ensures c.rows-2.ensures c.bitand-2.ensures
