use Rattle.run.proofs.Run.kind.Goals as goal

pub returns : goal.returns
returns c = cc
