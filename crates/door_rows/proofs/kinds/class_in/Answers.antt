use Rattle.model.specs.Row.{class_in}
use Rattle.door_rows.proofs.kinds.class_in.Goals as goal

pub returns : goal.returns
unfolding class_in
returns c = cc
