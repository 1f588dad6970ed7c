use Rattle.sets_of_table.proofs.ask.holds_class.Goals as goal

pub returns : goal.returns
returns c = cc
