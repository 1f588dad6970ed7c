use Rattle.sets_hosts.specs.Hosts.{kind_on, kind_off}
use native.Mathlib.Omega.{arith}
use Rattle.sets_hosts.proofs.of_kind.Goals as goal

pub get-requires : goal.get-requires
get-requires c = omega (arith, c.requires.0, c.requires.2)

pub returns-then-host : goal.returns-then-host
returns-then-host c = kind_on _ _ _ _ _ c.if-host.true c.get.ensures

pub get-requires-2 : goal.get-requires-2
get-requires-2 c = omega (arith, c.requires.1, c.requires.2)

pub returns : goal.returns
returns c = kind_off _ _ _ _ _ c.if-host.false c.get-2.ensures
