use Rattle.finite.specs.Logic.{◌and◌, ◌or◌}
use Rattle.model.specs.Race.{clash}
use Rattle.run_rows.proofs.shared.clash.Goals as goal

pub returns : goal.returns
unfolding clash ◌and◌ ◌or◌
returns c = cc
