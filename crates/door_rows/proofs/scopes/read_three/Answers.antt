use Rattle.model.specs.Header.{shader_place_at}
use Rattle.door_rows.proofs.scopes.read_three.Goals as goal

pub returns : goal.returns
unfolding shader_place_at
returns c = cc
