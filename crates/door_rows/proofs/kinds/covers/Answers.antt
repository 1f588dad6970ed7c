use Rattle.std.proofs.Common.{refl}
use Rattle.finite.specs.Logic.{◌and◌}
use Rattle.model.specs.Row.{covers}
use Rattle.door_rows.proofs.kinds.covers.Goals as goal

pub returns : goal.returns
unfolding covers ◌and◌
returns c = refl
