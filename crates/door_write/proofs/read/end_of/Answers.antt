use mathlib.Core.Path.{sym}
use Rattle.door_write.proofs.Laws.{end_first, end_second}
use Rattle.door_write.proofs.read.end_of.Goals as goal

pub returns-then-k-eq0 : goal.returns-then-k-eq0
returns-then-k-eq0 c = sym (end_first _ _ c.if-k-eq0.true)

pub returns : goal.returns
returns c = sym (end_second _ _ c.if-k-eq0.false)
