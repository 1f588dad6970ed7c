use Rattle.run.specs.Layout.{places_in}
use Rattle.run.proofs.places_in.Goals as goal

pub returns : goal.returns
unfolding places_in
returns c = cc
