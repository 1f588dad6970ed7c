use Rattle.sets_hosts.specs.Hosts.{domain_on, domain_off}
use Rattle.sets_hosts.proofs.in_domain.Goals as goal

pub returns-then-host : goal.returns-then-host
returns-then-host c = domain_on _ _ _ _ _ c.if-host.true c.rows-hosts.ensures c.bitand.ensures

pub returns : goal.returns
returns c = domain_off _ _ _ _ _ c.if-host.false c.rows-hosts.ensures c.sub.ensures
