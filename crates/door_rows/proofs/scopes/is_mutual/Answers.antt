use Rattle.finite.specs.Logic.{◌and◌}
use Rattle.model.specs.Scope.{mutual_rows}
use Rattle.door_rows.proofs.scopes.is_mutual.Goals as goal

pub returns : goal.returns
unfolding mutual_rows ◌and◌
returns c = cc
