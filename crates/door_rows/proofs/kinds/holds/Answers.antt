use Rattle.std.proofs.Common.{refl}
use Rattle.model.specs.Row.{holds}
use Rattle.door_rows.proofs.kinds.holds.Goals as goal

pub returns : goal.returns
unfolding holds
returns c = refl
