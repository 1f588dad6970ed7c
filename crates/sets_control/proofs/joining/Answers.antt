use Rattle.model.specs.Table.{decode}
use Rattle.sets_of_table.specs.Ask.{few, there}
use Rattle.sets_control.specs.Passed.{joining_rows}
use native.Mathlib.Omega.{arith}
use Rattle.sets_control.proofs.joining.Goals as goal

pub class-requires : goal.class-requires
class-requires c = let a = few c.requires.2 in omega (arith, c.requires.0)

pub sharing-share-requires : goal.sharing-share-requires
unfolding decode
sharing-share-requires c =
    let o = c.requires.2 in
    (c.requires.0, (let e = o.fit.executed _ (there o _ c.requires.0) c.requires.1 in let f = c.class.ensures in omega arith), o)

pub without-requires : goal.without-requires
without-requires c =
    let a = few c.requires.2 in omega (arith, c.requires.0)

pub returns : goal.returns
unfolding decode
returns c =
    joining_rows _ _ _ _ _ _ _ c.requires.1 c.class.ensures c.sharing-share.ensures c.instance.ensures c.bitand.ensures c.without.ensures
