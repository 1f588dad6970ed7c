use Rattle.std.proofs.Common.{refl}
use Rattle.model.specs.Row.{meets}
use Rattle.door_rows.proofs.kinds.meets.Goals as goal

pub returns : goal.returns
unfolding meets
returns c = refl
