use Rattle.model.specs.Table.{dependency_count}
use Rattle.run.specs.Layout.{mode_in}
use Rattle.run.proofs.Run.dependencies.Goals as goal

pub returns : goal.returns
unfolding mode_in dependency_count
returns c = cc
