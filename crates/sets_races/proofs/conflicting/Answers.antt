use Rattle.model.specs.Table.{decode}
use Rattle.sets_grids.specs.Given.{given_few}
use Rattle.sets_races.specs.Pair.{over_rows, writer_rows, reader_rows}
use native.Mathlib.Omega.{arith}
use Rattle.sets_races.proofs.conflicting.Goals as goal

pub rows-writes-requires : goal.rows-writes-requires
rows-writes-requires c = let a = c.requires.1.given.opened.space in omega arith

pub get-requires : goal.get-requires
get-requires c = let a = c.requires.1.given.room in let b = given_few c.requires.1.given in omega (arith, c.requires.0.low)

pub above-requires : goal.above-requires
above-requires c = let b = given_few c.requires.1.given in omega (arith, c.requires.0.low)

pub has-requires : goal.has-requires
has-requires c =
    let b = given_few c.requires.1.given in omega (arith, c.requires.0.low)

pub returns-then-has : goal.returns-then-has
unfolding decode
returns-then-has c =
    writer_rows c.requires.1.given c.requires.1.judging c.requires.0.low c.requires.0.is c.rows-writes.ensures c.has.ensures c.if-has.true (over_rows c.requires.1.given c.requires.1.judging c.requires.0.low c.requires.0.is _ c.get.ensures c.above.ensures c.bitand-over.ensures)

pub returns-else-has : goal.returns-else-has
unfolding decode
returns-else-has c =
    reader_rows c.requires.1.given c.requires.1.judging c.requires.0.low c.requires.0.is c.rows-writes.ensures c.has.ensures c.if-has.false (over_rows c.requires.1.given c.requires.1.judging c.requires.0.low c.requires.0.is _ c.get.ensures c.above.ensures c.bitand-over.ensures) c.bitand.ensures
