use Rattle.sets_hosts.specs.Hosts.{reached_rows}
use native.Mathlib.Omega.{arith}
use Rattle.sets_hosts.proofs.by_domains.Goals as goal

pub has-host-requires : goal.has-host-requires
has-host-requires c = c.requires.0

pub of_kind-makers-requires : goal.of_kind-makers-requires
of_kind-makers-requires c = (omega arith, omega arith, c.requires.1)

pub get-requires : goal.get-requires
get-requires c =
    omega (arith, c.requires.0, c.requires.2)

pub union-requires : goal.union-requires
union-requires c =
    omega (arith, c.requires.2)

pub returns : goal.returns
returns c =
    reached_rows _ _ _ _ _ _ _ _ _ c.rows.ensures c.has-host.ensures c.of_kind-makers.ensures c.get.ensures c.bitand-by.ensures c.union.ensures
