use Rattle.std.proofs.Common.{sym}
use Rattle.door_rows.proofs.Laws.{after_none, after_rest}
use Rattle.door_rows.proofs.bytes.dependency_bytes.Goals as goal

pub returns-then-s-at : goal.returns-then-s-at
returns-then-s-at c = sym (after_none _ _ c.rows_end-at.ensures.0 c.if-s-at.true)

pub returns : goal.returns
returns c = after_rest _ _ c.rows_end-at.ensures.0
