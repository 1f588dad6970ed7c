use Rattle.sets_closure.specs.Widest.{taken_on, taken_off}
use Rattle.sets_closure.proofs.shared.Goals as goal

pub returns-then-b : goal.returns-then-b
returns-then-b c = taken_on _ c.args.x c.args.y c.if-b.true

pub returns-else-b : goal.returns-else-b
returns-else-b c = taken_off _ c.args.x c.args.y c.if-b.false
