use Rattle.model.specs.Table.{decode}
use Rattle.model.specs.Fill.{overwrites_between}
use Rattle.finite.specs.Logic.{◌and◌}
use Rattle.find_sources.proofs.writers.hides_at.Goals as goal

pub returns : goal.returns
unfolding overwrites_between decode ◌and◌
returns c = cc
