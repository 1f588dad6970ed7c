use Rattle.model.specs.Header.{rows_at}
use Rattle.door_rows.proofs.bytes.rows_at.Goals as goal

pub returns : goal.returns
unfolding rows_at
returns c = cc
