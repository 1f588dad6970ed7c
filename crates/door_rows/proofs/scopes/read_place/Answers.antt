use Rattle.std.proofs.Common.{sym, ◌∙◌, le-ltb, lt-ltb}
use Rattle.model.specs.Header.{slot_at, place_at}
use Rattle.door_rows.proofs.scopes.read_place.Goals as goal

pub returns-then-agents_at-a : goal.returns-then-agents_at-a
unfolding slot_at
returns-then-agents_at-a c = rw (← c.agents_at.ensures) (simp (le-ltb _ _ c.if-agents_at-a.true))

pub returns-then-has_hosts : goal.returns-then-has_hosts
unfolding slot_at place_at
returns-then-has_hosts c = rw (← c.agents_at.ensures)
    (simp (lt-ltb _ _ c.if-agents_at-a.false, sym c.has_hosts.ensures ∙ c.if-has_hosts.true) (cc))

pub returns : goal.returns
unfolding slot_at place_at
returns c = rw (← c.agents_at.ensures)
    (simp (lt-ltb _ _ c.if-agents_at-a.false, sym c.has_hosts.ensures ∙ c.if-has_hosts.false) (cc))
