use borrow.Author.Rules.{rules}
use Rattle.work_sets.specs.Lowest.{lowest_is, lowest_small}
use Rattle.work_sets.proofs.lowest.Goals as goal

pub returns : goal.returns
returns c = (lowest_is 64 c.args.x (search rules) (search rules), lowest_small 64 c.args.x (search rules) (search rules))
