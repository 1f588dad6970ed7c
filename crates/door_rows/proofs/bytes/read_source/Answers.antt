use Rattle.model.specs.Table.{source_of}
use Rattle.door_rows.proofs.bytes.read_source.Goals as goal

pub returns : goal.returns
unfolding source_of
returns c = cc
