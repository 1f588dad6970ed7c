use Rattle.model.specs.Header.{any_place_at}
use Rattle.door_rows.proofs.scopes.read_four.Goals as goal

pub returns : goal.returns
unfolding any_place_at
returns c = cc
