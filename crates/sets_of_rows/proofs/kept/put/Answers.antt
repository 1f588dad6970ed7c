use lib.ListN.{length-set}
use Rattle.sets_of_rows.specs.Kept.{put_is}
use borrow.Author.Rules.{rules}
use Rattle.sets_of_rows.proofs.kept.put.Goals as goal

pub bounds-w-base-2 : goal.bounds-w-base-2
bounds-w-base-2 c = simp length-set (search rules)

pub returns : goal.returns
returns c = put_is _ _ _ (search rules)
