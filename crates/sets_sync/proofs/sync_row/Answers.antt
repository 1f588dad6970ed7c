use native.Mathlib.Omega.{arith}
use Rattle.model.specs.Table.{decode}
use Rattle.sets_of_table.specs.Ask.{few}
use Rattle.sets_sync.specs.Sync.{sync_rows}
use Rattle.sets_sync.proofs.sync_row.Goals as goal

pub carried-requires : goal.carried-requires
carried-requires c = (c.requires.0.low, c.requires.1, c.requires.2.taken)

pub get-requires : goal.get-requires
get-requires c = let b = few c.requires.1.opened in let r = c.requires.1.room in omega (arith, c.requires.0.low)

pub rows-requires : goal.rows-requires
rows-requires c =
    let a = c.requires.1.opened.space in omega arith

pub together-requires : goal.together-requires
together-requires c =
    (c.requires.0.low, c.requires.1.opened)

pub without-requires : goal.without-requires
without-requires c =
    let b = few c.requires.1.opened in omega (arith, c.requires.0.low)

pub returns : goal.returns
unfolding decode
returns c =
    let pre = c.requires in
    sync_rows pre.1.opened pre.2.passed _ _ _ _ _ _ _ _ _ pre.0.low pre.0.is c.carried.ensures c.get.ensures c.bitor-to.ensures c.rows.ensures c.bitand-acquires.ensures c.together.ensures c.bitand.ensures c.without.ensures
