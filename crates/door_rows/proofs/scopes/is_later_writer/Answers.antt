use Rattle.finite.specs.Logic.{◌and◌}
use Rattle.model.specs.Scope.{later_writer}
use Rattle.door_rows.proofs.scopes.is_later_writer.Goals as goal

pub returns : goal.returns
unfolding later_writer ◌and◌
returns c = cc
