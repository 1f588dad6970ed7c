use Rattle.run.proofs.Run.row.Goals as goal

pub returns : goal.returns
returns c = cc
