use native.Mathlib.Omega.{arith}
use Rattle.model.specs.Table.{decode}
use Rattle.sets_of_table.specs.Ask.{few}
use Rattle.sets_sequences.specs.Taken.{from_row_lem, from_none, source_is}
use Rattle.sets_sequences.proofs.taken.take_from.Goals as goal

pub source-source-requires : goal.source-source-requires
source-source-requires c = let r = c.requires in let b = few r.given.opened in omega (arith, r.reader)

pub take-requires : goal.take-requires
take-requires c =
    (c.if-source-t.true, c.requires)

pub shape_of-w : goal.shape_of-w
shape_of-w c = c.take.ensures.frame.len

pub returns-then-source-t : goal.returns-then-source-t
unfolding decode
returns-then-source-t c =
    from_row_lem (source_is _ _ c.requires.atomic c.source-source.ensures) c.if-source-t.true c.take.ensures

pub returns-else-source-t : goal.returns-else-source-t
unfolding decode
returns-else-source-t c = from_none _ (source_is _ _ c.requires.atomic c.source-source.ensures) c.if-source-t.false
