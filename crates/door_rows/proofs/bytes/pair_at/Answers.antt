use Rattle.std.proofs.Common.{sym}
use Rattle.model.specs.Header.{pair_at}
use Rattle.door_rows.proofs.Laws.{pair_past}
use Rattle.door_rows.proofs.bytes.pair_at.Goals as goal

pub returns-then-s-at : goal.returns-then-s-at
returns-then-s-at c = sym (pair_past c.args.s.now _ c.if-s-at.true)

pub returns : goal.returns
unfolding pair_at
returns c = cc
