use Rattle.model.specs.Row.{makes_available}
use Rattle.door_rows.proofs.kinds.makes_available.Goals as goal

pub returns : goal.returns
unfolding makes_available
returns c = cc
