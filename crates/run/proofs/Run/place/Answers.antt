use Rattle.run.specs.Agents.{place_at_lem, place_past}
use Rattle.run.proofs.Run.place.Goals as goal

pub returns-then-a-lt-AGENTS : goal.returns-then-a-lt-AGENTS
returns-then-a-lt-AGENTS c = place_at_lem _ _ _ c.if-a-lt-AGENTS.true c.read_place.ensures

pub returns : goal.returns
returns c = place_past _ _ c.if-a-lt-AGENTS.false
