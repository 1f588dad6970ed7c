use Rattle.model.specs.Header.{pair_at}
use Rattle.door_rows.proofs.bytes.pair_inside.Goals as goal

pub returns : goal.returns
unfolding pair_at
returns c = cc
