use Rattle.run.proofs.Run.start.Goals as goal

pub returns : goal.returns
returns c = cc
