use Rattle.model.specs.Table.{dependency_to, dependency_end}
use Rattle.door_rows.proofs.bytes.dependency_to.Goals as goal

pub returns : goal.returns
unfolding dependency_to dependency_end
returns c = cc
