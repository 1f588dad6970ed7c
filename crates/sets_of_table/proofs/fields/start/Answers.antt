use borrow.Author.Rules.{rules}
use Rattle.sets_of_table.proofs.fields.start.Goals as goal

pub returns : goal.returns
returns c = (cc, search rules)
