use Rattle.std.proofs.Common.{refl}
use Rattle.finite.specs.Logic.{◌or◌}
use Rattle.model.specs.Row.{writes}
use Rattle.door_rows.proofs.kinds.writes.Goals as goal

pub returns : goal.returns
unfolding writes ◌or◌
returns c = refl
