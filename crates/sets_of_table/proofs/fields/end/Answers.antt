use Rattle.model.specs.Table.{row_of}
use borrow.Author.Rules.{rules}
use Rattle.sets_of_table.proofs.fields.end.Goals as goal

pub returns : goal.returns
unfolding row_of
returns c = (cc, search rules)
