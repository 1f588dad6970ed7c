use Rattle.model.specs.Scope.{host}
use Rattle.door_rows.proofs.scopes.is_host.Goals as goal

pub returns : goal.returns
unfolding host
returns c = cc
