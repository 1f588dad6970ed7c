use Rattle.model.specs.Row.{non_private}
use Rattle.door_rows.proofs.kinds.is_non_private.Goals as goal

pub returns : goal.returns
unfolding non_private
returns c = cc
