use Rattle.finite.specs.Logic.{◌and◌}
use Rattle.model.specs.Row.{covers}
use Rattle.sets_location.proofs.part.covers.Goals as goal

pub returns : goal.returns
unfolding covers ◌and◌
returns c = cc
