use Rattle.model.specs.Moment.{classes_of}
use Rattle.run_rows.proofs.moments.classes_of.Goals as goal

pub returns : goal.returns
unfolding classes_of
returns c = cc
