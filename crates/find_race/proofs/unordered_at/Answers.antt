use Rattle.model.specs.Race.{unordered}
use Rattle.model.specs.Table.{decode}
use Rattle.finite.specs.Logic.{◌and◌}
use Rattle.find_race.proofs.unordered_at.Goals as goal

pub returns : goal.returns
unfolding unordered decode ◌and◌
returns c = cc
