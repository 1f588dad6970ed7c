use Rattle.sets_of_rows.specs.Kept.{put_bit_is}
use borrow.Author.Rules.{rules}
use Rattle.sets_of_rows.proofs.kept.put_bit.Goals as goal

pub returns : goal.returns
returns c = put_bit_is _ _ _ (search rules) (search rules)
