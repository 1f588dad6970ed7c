use Rattle.std.proofs.Common.{refl}
use Rattle.finite.specs.Logic.{◌and◌}
use Rattle.model.specs.Scope.{later}
use Rattle.door_rows.proofs.scopes.is_later.Goals as goal

pub returns-then-counted : goal.returns-then-counted
unfolding later ◌and◌
returns-then-counted c = rw c.if-counted.true cc

pub returns-else-counted : goal.returns-else-counted
unfolding later
returns-else-counted c = rw c.if-counted.false refl
