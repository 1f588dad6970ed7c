use Rattle.model.specs.Scope.{agent_kind}
use Rattle.door_rows.proofs.scopes.agent_kind.Goals as goal

pub returns : goal.returns
unfolding agent_kind
returns c = cc
