use Rattle.model.specs.Table.{decode}
use Rattle.sets_of_table.specs.Ask.{few}
use Rattle.sets_location.specs.Maybe.{visible_among, either_among, maybe_set}
use native.Mathlib.Omega.{arith}
use Rattle.sets_location.proofs.part.maybe_met.Goals as goal

pub rows-reads-requires : goal.rows-reads-requires
rows-reads-requires c = let r = c.requires.1.given.opened.space in omega (arith, r)

pub union-at-requires : goal.union-at-requires
union-at-requires c = let r = c.requires.1.given.room in omega (arith, r)

pub union-visible-requires : goal.union-visible-requires
union-visible-requires c = let r = c.requires.1.given.room in omega (arith, r)

pub wide_visible-requires : goal.wide_visible-requires
unfolding decode
wide_visible-requires c =
    let b = few c.requires.1.given.opened in let r = c.requires.1.given.opened.rows in let low = c.requires.0.low in (omega (arith, low, b), c.requires.1.given.opened.fit.classed _ (omega (arith, low, r)) c.requires.0.is, c.requires.1.given.opened.space)

pub seen-wide-requires : goal.seen-wide-requires
seen-wide-requires c =
    (visible_among c.requires.1.given.opened c.requires.1.locating _ c.requires.0.low c.requires.0.is c.requires.2 _ _ c.union-at.ensures c.union-visible.ensures _ _ c.bitand.ensures, c.requires.1.given.opened)

pub plain_visible-requires : goal.plain_visible-requires
plain_visible-requires c =
    let b = few c.requires.1.given.opened in let low = c.requires.0.low in (omega (arith, low, b), c.requires.1.given.opened.space)

pub seen-plain-requires : goal.seen-plain-requires
seen-plain-requires c =
    (either_among c.requires.1.given.opened c.requires.1.locating _ c.requires.0.low c.requires.0.is c.requires.2 _ _ c.union-at.ensures c.union-visible.ensures _ _ _ c.bitor.ensures c.bitand-by.ensures, c.requires.1.given.opened)

pub returns : goal.returns
unfolding decode
returns c =
    maybe_set c.requires.1.given.opened c.requires.1.locating _ c.requires.0.low c.requires.0.is c.requires.2 _ _ c.union-at.ensures c.union-visible.ensures _ _ _ _ _ _ _ _ _ _ _ _ c.rows-reads.ensures c.wide_visible.ensures c.bitand.ensures c.seen-wide.ensures c.bitor.ensures c.plain_visible.ensures c.bitand-by.ensures c.seen-plain.ensures c.sub.ensures c.bitor-2.ensures c.bitand-2.ensures c.bitor-3.ensures
