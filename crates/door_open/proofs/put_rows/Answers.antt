use Rattle.door_open.specs.Laid.{rows_put}
use borrow.Author.Rules.{rules}
use Rattle.door_open.proofs.put_rows.Goals as goal

pub returns : goal.returns
returns c =
    rows_put _ _ _ _ _ _ _ _ c.put.ensures c.put-2.ensures c.row_bytes-rows.ensures c.min-head.ensures c.min-end.ensures (search rules)
