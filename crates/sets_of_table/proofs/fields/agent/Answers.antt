use Rattle.sets_of_table.proofs.fields.agent.Goals as goal

pub returns : goal.returns
returns c = cc
