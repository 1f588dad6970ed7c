use Rattle.door_write.specs.Encode.{table_size}
use borrow.Author.Rules.{rules}
use Rattle.door_write.proofs.encode.table_size.Goals as goal

pub returns : goal.returns
unfolding table_size
returns c = (cc, search rules, search rules)
