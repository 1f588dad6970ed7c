use Rattle.std.proofs.Common.{refl}
use Rattle.model.specs.Row.{rmw}
use Rattle.door_rows.proofs.kinds.is_rmw.Goals as goal

pub returns : goal.returns
unfolding rmw
returns c = refl
