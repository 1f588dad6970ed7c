use Rattle.door_write.specs.Encode.{row_list}
use mathlib.Core.Path.{refl}
use Rattle.door_write.proofs.encode.row_bytes.Goals as goal

pub returns : goal.returns
unfolding row_list
returns c = refl
