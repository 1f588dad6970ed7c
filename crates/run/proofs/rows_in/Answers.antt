use Rattle.run.specs.Layout.{rows_in}
use Rattle.run.proofs.rows_in.Goals as goal

pub returns : goal.returns
unfolding rows_in
returns c = cc
