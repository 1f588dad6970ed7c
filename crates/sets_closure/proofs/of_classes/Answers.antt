use Rattle.sets_closure.specs.Classes.{concerns_rows}
use native.Mathlib.Omega.{arith}
use Rattle.sets_closure.proofs.of_classes.Goals as goal

pub holding-holds-requires : goal.holding-holds-requires
holding-holds-requires c = (c.requires.0.low, c.requires.2.space)

pub meeting-meets-requires : goal.meeting-meets-requires
meeting-meets-requires c = (c.requires.0.low, c.requires.2)

pub rows-requires : goal.rows-requires
rows-requires c = let a = c.requires.2.space in omega arith

pub rows-requires-2 : goal.rows-requires-2
rows-requires-2 c =
    let a = c.requires.2.space in omega arith

pub of_classes-requires : goal.of_classes-requires
of_classes-requires c =
    (c.requires.0.low, c.requires.2)

pub rows-requires-3 : goal.rows-requires-3
rows-requires-3 c =
    let a = c.requires.2.space in omega arith

pub rows-requires-4 : goal.rows-requires-4
rows-requires-4 c =
    let a = c.requires.2.space in omega arith

pub returns : goal.returns
returns c =
    concerns_rows c.requires.2 _ _ _ _ _ _ _ _ _ _ _ _ _ _ _ _ c.requires.0.some c.requires.1 c.holding-holds.ensures c.meeting-meets.ensures c.rows.ensures c.bitand-releases.ensures c.rows-2.ensures c.bitand-acquires.ensures c.bitor.ensures c.bitor-2.ensures c.of_classes.ensures c.bitor-3.ensures c.rows-3.ensures c.bitand.ensures c.rows-4.ensures c.bitand-2.ensures
