use Rattle.sets_of_rows.specs.First.{some_is}
use borrow.Author.Rules.{rules}
use Rattle.sets_of_rows.proofs.Set.has_any.Goals as goal

pub returns : goal.returns
returns c = some_is c.args.self (search rules) (search rules)
