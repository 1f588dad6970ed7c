use Rattle.model.specs.Table.{dependency_to}
use Rattle.run.specs.Layout.{mode_in}
use Rattle.run.proofs.Run.second_of.Goals as goal

pub returns : goal.returns
unfolding mode_in dependency_to
returns c = cc
