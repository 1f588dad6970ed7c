use Rattle.find_race.specs.Bytes.{may_race}
use Rattle.model.specs.Race.{conflict}
use Rattle.model.specs.Table.{decode}
use Rattle.finite.specs.Logic.{◌and◌}
use Rattle.find_race.proofs.may_race.Goals as goal

pub returns : goal.returns
unfolding may_race conflict decode ◌and◌
returns c = cc
