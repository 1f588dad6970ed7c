use Rattle.sets_mutual.specs.Later.{add_yes, add_no}
use Rattle.sets_mutual.proofs.later.add_if.Goals as goal

pub returns-then-b : goal.returns-then-b
returns-then-b c = add_yes _ _ _ _ _ c.if-b.true c.bit.ensures c.bitor.ensures

pub returns-else-b : goal.returns-else-b
returns-else-b c = add_no _ _ _ c.if-b.false
