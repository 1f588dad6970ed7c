use Rattle.door_write.specs.Encode.{dependencies_of}
use Rattle.model.specs.Table.{dependency_count, dependency_from, dependency_to}
use Rattle.door_write.proofs.read.read_dependencies.Goals as goal

pub returns : goal.returns
unfolding dependencies_of dependency_count dependency_from dependency_to
returns c = cc
