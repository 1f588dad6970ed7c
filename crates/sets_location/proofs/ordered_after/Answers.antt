use Rattle.sets_of_table.specs.Ask.{few}
use Rattle.sets_location.specs.Told.{told_set}
use native.Mathlib.Omega.{arith}
use Rattle.sets_location.proofs.ordered_after.Goals as goal

pub get-happens-requires : goal.get-happens-requires
get-happens-requires c = let b = few c.requires.1.given.opened in let r = c.requires.1.given.room in omega (arith, c.requires.0.low, b, r)

pub rows-public-requires : goal.rows-public-requires
rows-public-requires c = let r = c.requires.1.given.opened.space in omega (arith, r)

pub of_agent-requires : goal.of_agent-requires
of_agent-requires c = (c.requires.0.low, c.requires.1.given.opened)

pub get-requires : goal.get-requires
get-requires c =
    let b = few c.requires.1.given.opened in let r = c.requires.1.given.opened.space in omega (arith, c.requires.0.low, b, r)

pub has-requires : goal.has-requires
has-requires c =
    let b = few c.requires.1.given.opened in omega (arith, c.requires.0.low, b)

pub rows-requires : goal.rows-requires
rows-requires c =
    let r = c.requires.1.given.opened.space in omega (arith, r)

pub has-requires-2 : goal.has-requires-2
has-requires-2 c =
    let b = few c.requires.1.given.opened in omega (arith, c.requires.0.low, b)

pub get-requires-2 : goal.get-requires-2
get-requires-2 c =
    let b = few c.requires.1.given.opened in let r = c.requires.1.given.room in omega (arith, c.requires.0.low, b, r)

pub returns : goal.returns
returns c =
    told_set c.requires.1.given.opened c.requires.1.locating _ c.requires.0.low c.requires.0.is _ _ _ _ _ _ _ _ _ _ _ _ _ _ c.get-happens.ensures c.rows-public.ensures c.of_agent.ensures c.bitand-own.ensures c.get.ensures c.bitand-l1.ensures c.has.ensures c.rows.ensures c.has-2.ensures c.bitand.ensures c.only_if-l2.ensures c.bitor.ensures c.get-2.ensures c.bitor-2.ensures
