use Rattle.model.specs.Table.{dependency_from}
use Rattle.run.specs.Layout.{mode_in}
use Rattle.run.proofs.Run.first_of.Goals as goal

pub returns : goal.returns
unfolding mode_in dependency_from
returns c = cc
