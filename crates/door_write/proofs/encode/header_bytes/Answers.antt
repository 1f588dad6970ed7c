use Rattle.door_write.specs.Encode.{header_list}
use mathlib.Core.Path.{refl}
use Rattle.door_write.proofs.encode.header_bytes.Goals as goal

pub returns : goal.returns
unfolding header_list
returns c = refl
