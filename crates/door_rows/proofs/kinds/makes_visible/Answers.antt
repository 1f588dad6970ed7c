use Rattle.model.specs.Row.{makes_visible}
use Rattle.door_rows.proofs.kinds.makes_visible.Goals as goal

pub returns : goal.returns
unfolding makes_visible
returns c = cc
