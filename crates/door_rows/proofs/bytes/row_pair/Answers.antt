use Rattle.model.specs.Table.{pair_of}
use Rattle.door_rows.proofs.bytes.row_pair.Goals as goal

pub returns : goal.returns
unfolding pair_of
returns c = cc
