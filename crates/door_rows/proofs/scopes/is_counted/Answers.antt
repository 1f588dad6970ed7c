use Rattle.model.specs.Header.{version_at}
use Rattle.model.specs.Table.{mode_of}
use Rattle.door_rows.proofs.scopes.is_counted.Goals as goal

pub returns : goal.returns
unfolding mode_of version_at
returns c = cc
