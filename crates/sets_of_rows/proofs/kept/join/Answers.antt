use lib.ListN.{length-set}
use Rattle.sets_of_rows.specs.Kept.{join_is}
use borrow.Author.Rules.{rules}
use Rattle.sets_of_rows.proofs.kept.join.Goals as goal

pub bounds-w-base-3 : goal.bounds-w-base-3
bounds-w-base-3 c = simp length-set (search rules)

pub bounds-w-base-4 : goal.bounds-w-base-4
bounds-w-base-4 c = simp length-set (search rules)

pub returns : goal.returns
returns c = join_is _ _ _ (search rules)
