use Rattle.door_write.specs.Answer.{dependencies_fit}
use mathlib.Core.Path.{refl}
use Rattle.door_write.proofs.dependencies_fit.Goals as goal

pub returns-then-with_hosts : goal.returns-then-with_hosts
unfolding dependencies_fit
returns-then-with_hosts c = rw (← c.with_hosts.ensures, c.if-with_hosts.true) refl

pub returns : goal.returns
unfolding dependencies_fit
returns c = rw (← c.with_hosts.ensures, c.if-with_hosts.false) refl
