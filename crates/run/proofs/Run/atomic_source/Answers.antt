use Rattle.run.proofs.Run.atomic_source.Goals as goal

pub returns : goal.returns
returns c = cc
