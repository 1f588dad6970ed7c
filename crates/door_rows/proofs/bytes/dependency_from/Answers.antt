use Rattle.model.specs.Table.{dependency_from, dependency_end}
use Rattle.door_rows.proofs.bytes.dependency_from.Goals as goal

pub returns : goal.returns
unfolding dependency_from dependency_end
returns c = cc
