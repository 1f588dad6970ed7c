use Rattle.door_write.proofs.Laws.{half_high, half_low}
use mathlib.Core.Path.{sym}
use Rattle.door_write.proofs.encode.half.Goals as goal

pub returns-then-k-eq0 : goal.returns-then-k-eq0
returns-then-k-eq0 c = sym (half_high _ _ c.if-k-eq0.true)

pub returns : goal.returns
returns c = sym (half_low _ _ c.if-k-eq0.false)
