use Rattle.sets_hosts.specs.Hosts.{writes_rows, other_rows}
use native.Mathlib.Omega.{arith}
use Rattle.sets_hosts.proofs.hosted_row.Goals as goal

pub has-requires : goal.has-requires
has-requires c = c.requires.0

pub by_domains-requires : goal.by_domains-requires
by_domains-requires c =
    c.requires

pub returns-then-has : goal.returns-then-has
returns-then-has c = writes_rows _ _ _ _ _ _ c.rows.ensures c.has.ensures c.if-has.true c.by_domains.ensures

pub get-requires : goal.get-requires
get-requires c =
    omega (arith, c.requires.0, c.requires.2)

pub returns : goal.returns
returns c = other_rows _ _ _ _ _ _ c.rows.ensures c.has.ensures c.if-has.false c.get.ensures
