use Rattle.std.proofs.Common.{refl}
use Rattle.model.specs.Row.{access}
use Rattle.door_rows.proofs.kinds.is_access.Goals as goal

pub returns : goal.returns
unfolding access
returns c = refl
