use Rattle.run.specs.Dependencies.{end_in_lem, end_past}
use Rattle.run.proofs.Run.end_of.Goals as goal

pub returns-then-i-lt-DEPENDENCIES : goal.returns-then-i-lt-DEPENDENCIES
returns-then-i-lt-DEPENDENCIES c = end_in_lem _ _ _ c.part.ensures c.pair_at.ensures c.if-i-lt-DEPENDENCIES.true

pub returns : goal.returns
returns c = end_past _ _ _ c.if-i-lt-DEPENDENCIES.false
