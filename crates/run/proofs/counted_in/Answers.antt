use Rattle.run.specs.Layout.{mode_in, flag_in}
use Rattle.run.proofs.counted_in.Goals as goal

pub returns : goal.returns
unfolding mode_in flag_in
returns c = cc
