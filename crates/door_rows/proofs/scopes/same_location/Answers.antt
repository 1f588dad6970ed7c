use Rattle.std.proofs.Common.{refl}
use Rattle.finite.specs.Logic.{◌and◌}
use Rattle.model.specs.Scope.{same_location}
use Rattle.door_rows.proofs.scopes.same_location.Goals as goal

pub returns : goal.returns
unfolding same_location ◌and◌
returns c = refl
