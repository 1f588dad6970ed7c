use Rattle.door_write.specs.Parts.{place_in}
use Rattle.door_write.proofs.parts.place_in.Goals as goal

pub returns : goal.returns
unfolding place_in
returns c = cc
