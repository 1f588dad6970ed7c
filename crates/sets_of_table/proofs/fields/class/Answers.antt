use Rattle.sets_of_table.proofs.fields.class.Goals as goal

pub returns : goal.returns
returns c = cc
