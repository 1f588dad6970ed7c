use Rattle.sets_hosts.specs.Hosts.{met_in_rows}
use native.Mathlib.Omega.{arith}
use Rattle.sets_hosts.proofs.met_in.Goals as goal

pub get-to-requires : goal.get-to-requires
get-to-requires c = omega (arith, c.requires.0, c.requires.2)

pub of_kind-sight-requires : goal.of_kind-sight-requires
of_kind-sight-requires c = (omega arith, omega arith, c.requires.1)

pub union-seen-requires : goal.union-seen-requires
union-seen-requires c =
    omega (arith, c.requires.2)

pub in_domain-requires : goal.in_domain-requires
in_domain-requires c =
    c.requires.1

pub returns : goal.returns
returns c =
    met_in_rows _ _ _ _ _ _ _ _ _ _ _ _ _ c.rows-reads.ensures c.get-to.ensures c.of_kind-sight.ensures c.bitand.ensures c.union-seen.ensures c.sub.ensures c.bitand-2.ensures c.bitor-met.ensures c.in_domain.ensures
