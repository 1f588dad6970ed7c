use Rattle.std.proofs.Common.{refl}
use Rattle.finite.specs.Logic.{◌or◌}
use Rattle.model.specs.Row.{reads}
use Rattle.door_rows.proofs.kinds.reads.Goals as goal

pub returns : goal.returns
unfolding reads ◌or◌
returns c = refl
