use Rattle.model.specs.Table.{decode}
use Rattle.sets_of_table.specs.Ask.{few}
use Rattle.sets_location.specs.Met.{wide_among, met_set}
use native.Mathlib.Omega.{arith}
use Rattle.sets_location.proofs.met_whole.Goals as goal

pub wide_visible-requires : goal.wide_visible-requires
unfolding decode
wide_visible-requires c = let b = few c.requires.1 in let r = c.requires.1.rows in let low = c.requires.0.low in (omega (arith, low, b), c.requires.1.fit.classed _ (omega (arith, low, r)) c.requires.0.is, c.requires.1.space)

pub seen-seen-requires : goal.seen-seen-requires
seen-seen-requires c = (wide_among c.requires.1 _ c.requires.0.low c.requires.0.is c.requires.2 _ _ c.bitand-wide.ensures, c.requires.1)

pub returns : goal.returns
unfolding decode
returns c =
    met_set c.requires.1 _ c.requires.0.low c.requires.0.is c.requires.2 _ _ _ _ _ _ _ c.rows-reads.ensures c.wide_visible.ensures c.bitand-wide.ensures c.seen-seen.ensures c.sub.ensures c.bitand.ensures c.bitor.ensures
