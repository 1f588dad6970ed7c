use Rattle.model.specs.Header.{has_hosts, version_at}
use Rattle.door_rows.proofs.bytes.has_hosts.Goals as goal

pub returns : goal.returns
unfolding has_hosts version_at
returns c = cc
