use Rattle.model.specs.Table.{byte_of}
use Rattle.door_rows.proofs.bytes.row_byte.Goals as goal

pub returns : goal.returns
unfolding byte_of
returns c = cc
