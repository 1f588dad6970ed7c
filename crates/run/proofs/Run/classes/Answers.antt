use Rattle.run.proofs.Run.classes.Goals as goal

pub returns : goal.returns
returns c = cc
