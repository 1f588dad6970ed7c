use Rattle.model.specs.Header.{agents_at}
use Rattle.door_rows.proofs.bytes.agents_at.Goals as goal

pub returns : goal.returns
unfolding agents_at
returns c = cc
