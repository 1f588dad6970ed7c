use Rattle.sets_of_table.specs.Ask.{few}
use Rattle.sets_grids.specs.Given.{fitting}
use Rattle.sets_location.specs.Bytes.{reads_is, parts_among, once_met}
use native.Mathlib.Omega.{arith}
use Rattle.sets_location.proofs.part.bytes_met.Goals as goal

pub rows-requires : goal.rows-requires
rows-requires c = let r = c.requires.1.given.opened.space in omega (arith, r)

pub has-requires : goal.has-requires
has-requires c = let b = few c.requires.1.given.opened in let low = c.requires.0.second.low in omega (arith, low, b)

pub bytes_seen-requires : goal.bytes_seen-requires
bytes_seen-requires c =
    (record { pair = c.requires.0; reading = reads_is _ _ c.requires.1.given.opened c.requires.0.second.low c.rows.ensures c.has.ensures c.if-has.true }, c.requires.1, c.requires.2)

pub bytes_at_once-requires : goal.bytes_at_once-requires
bytes_at_once-requires c =
    (record { first = c.requires.0.first.low; second = c.requires.0.second.low }, fitting c.requires.1.given, parts_among c.requires.2)

pub returns : goal.returns
returns c =
    once_met c.requires.1.given.opened c.requires.1.locating _ _ c.requires.0.first.low c.requires.0.second.low c.requires.0 c.requires.2 (reads_is _ _ c.requires.1.given.opened c.requires.0.second.low c.rows.ensures c.has.ensures c.if-has.false) c.bytes_at_once.ensures
