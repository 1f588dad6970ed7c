use Rattle.std.proofs.Common.{refl}
use Rattle.model.specs.Row.{control}
use Rattle.door_rows.proofs.kinds.is_control.Goals as goal

pub returns : goal.returns
unfolding control
returns c = refl
