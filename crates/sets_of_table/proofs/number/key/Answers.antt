use Rattle.sets_of_table.specs.Number.{key_in, key_of}
use Rattle.model.specs.Table.{row_of}
use Rattle.sets_of_table.proofs.number.key.Goals as goal

pub returns-then-whole : goal.returns-then-whole
unfolding key_in key_of row_of
returns-then-whole c = rw c.if-whole.true cc

pub returns : goal.returns
unfolding key_in
returns c = rw c.if-whole.false cc
