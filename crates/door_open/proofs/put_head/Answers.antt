use Rattle.door_open.specs.Laid.{head_put}
use borrow.Author.Rules.{rules}
use Rattle.door_open.proofs.put_head.Goals as goal

pub returns : goal.returns
returns c =
    head_put _ _ _ _ _ _ c.put.ensures (search rules) c.is_counted.ensures c.either-counted.ensures c.agents_at.ensures
