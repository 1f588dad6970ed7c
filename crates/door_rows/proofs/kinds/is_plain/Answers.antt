use Rattle.std.proofs.Common.{refl}
use Rattle.model.specs.Row.{plain}
use Rattle.door_rows.proofs.kinds.is_plain.Goals as goal

pub returns : goal.returns
unfolding plain
returns c = refl
