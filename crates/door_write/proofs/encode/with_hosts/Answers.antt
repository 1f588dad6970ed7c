use Rattle.door_write.specs.Encode.{with_hosts}
use mathlib.Core.Path.{refl}
use Rattle.door_write.proofs.encode.with_hosts.Goals as goal

pub returns : goal.returns
unfolding with_hosts
returns c = refl
