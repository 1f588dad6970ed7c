use Rattle.door_write.specs.Answer.{number_over}
use mathlib.Core.Path.{refl}
use Rattle.door_write.proofs.number_over.Goals as goal

pub returns-then-with_hosts : goal.returns-then-with_hosts
unfolding number_over
returns-then-with_hosts c = rw (← c.with_hosts.ensures, c.if-with_hosts.true, ← c.agent_kind-kind.ensures) refl

pub returns : goal.returns
unfolding number_over
returns c = rw (← c.with_hosts.ensures, c.if-with_hosts.false, ← c.agent_kind-kind.ensures) refl
