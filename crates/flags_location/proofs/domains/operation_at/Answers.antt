use Rattle.flags_location.specs.Domains.{operation_at}
use Rattle.model.specs.Row.{operation}
use Rattle.finite.specs.Logic.{◌and◌}
use Rattle.flags_location.proofs.domains.operation_at.Goals as goal

pub returns : goal.returns
unfolding operation_at operation ◌and◌
returns c = cc
