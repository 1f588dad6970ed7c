use Rattle.model.specs.Refusal.{kind_over}
use Rattle.door_admit.proofs.header.kind_over.Goals as goal

pub returns : goal.returns
unfolding kind_over
returns c = cc
