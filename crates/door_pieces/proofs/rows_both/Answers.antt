use Rattle.door_pieces.specs.Pieces.{rows_both}
use Rattle.door_pieces.proofs.rows_both.Goals as goal

pub returns : goal.returns
unfolding rows_both
returns c = cc
