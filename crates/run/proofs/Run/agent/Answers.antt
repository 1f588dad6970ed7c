use Rattle.run.proofs.Run.agent.Goals as goal

pub returns : goal.returns
returns c = cc
