use Rattle.sets_sequences.specs.Heads.{joins_yes, joins_no}
use Rattle.sets_sequences.proofs.join_if.Goals as goal

pub returns-then-b : goal.returns-then-b
returns-then-b c = joins_yes c.if-b.true c.put_bit.ensures

pub returns-else-b : goal.returns-else-b
returns-else-b c = joins_no _ _ _ c.if-b.false
