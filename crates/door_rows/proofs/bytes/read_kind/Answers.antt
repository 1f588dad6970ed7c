use Rattle.model.specs.Table.{row_of}
use Rattle.door_rows.proofs.bytes.read_kind.Goals as goal

pub returns : goal.returns
unfolding row_of
returns c = cc
