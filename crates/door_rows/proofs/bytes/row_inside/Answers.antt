use Rattle.model.specs.Table.{row_of, byte_of, pair_of}
use Rattle.door_rows.proofs.bytes.row_inside.Goals as goal

pub returns : goal.returns
unfolding row_of byte_of pair_of
returns c = cc
