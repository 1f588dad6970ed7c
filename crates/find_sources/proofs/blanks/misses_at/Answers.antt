use Rattle.model.specs.Table.{decode}
use Rattle.model.specs.Fill.{not_before_at}
use Rattle.finite.specs.Logic.{◌and◌}
use Rattle.find_sources.proofs.blanks.misses_at.Goals as goal

pub returns : goal.returns
unfolding not_before_at decode ◌and◌
returns c = cc
