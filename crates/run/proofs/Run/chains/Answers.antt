use Rattle.run.specs.Layout.{mode_in, flag_in}
use Rattle.run.proofs.Run.chains.Goals as goal

pub returns : goal.returns
unfolding mode_in flag_in
returns c = cc
