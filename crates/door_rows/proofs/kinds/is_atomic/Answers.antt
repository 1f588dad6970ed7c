use Rattle.std.proofs.Common.{refl}
use Rattle.finite.specs.Logic.{◌and◌}
use Rattle.model.specs.Row.{atomic}
use Rattle.door_rows.proofs.kinds.is_atomic.Goals as goal

pub returns : goal.returns
unfolding atomic ◌and◌
returns c = refl
