use Rattle.std.proofs.Common.{sym}
use Rattle.model.specs.Header.{quad_at}
use Rattle.door_rows.proofs.Laws.{quad_past}
use Rattle.door_rows.proofs.bytes.quad_at.Goals as goal

pub returns-then-s-at : goal.returns-then-s-at
returns-then-s-at c = sym (quad_past c.args.s.now _ c.if-s-at.true)

pub returns : goal.returns
unfolding quad_at
returns c = cc
