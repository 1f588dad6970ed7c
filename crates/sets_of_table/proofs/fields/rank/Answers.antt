use Rattle.sets_of_table.proofs.fields.rank.Goals as goal

pub returns : goal.returns
returns c = cc
