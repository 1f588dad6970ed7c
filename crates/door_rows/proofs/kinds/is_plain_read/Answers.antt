use Rattle.std.proofs.Common.{refl}
use Rattle.model.specs.Row.{plain_read}
use Rattle.door_rows.proofs.kinds.is_plain_read.Goals as goal

pub returns : goal.returns
unfolding plain_read
returns c = refl
