use Rattle.door_write.proofs.Laws.{entries_put}
use borrow.Author.Rules.{rules}
use Rattle.door_write.proofs.read.put_entries.Goals as goal

pub returns : goal.returns
returns c = entries_put _ _ _ _ _ (search rules) c.entry_bytes.ensures c.put.ensures
