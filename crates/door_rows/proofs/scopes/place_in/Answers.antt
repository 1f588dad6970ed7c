use Rattle.door_rows.specs.Places.{place_is, place_none}
use Rattle.door_rows.proofs.scopes.place_in.Goals as goal

pub returns-then-i-p : goal.returns-then-i-p
returns-then-i-p c = place_is _ _

pub returns-else-i-p : goal.returns-else-i-p
returns-else-i-p c = place_none _ _ c.if-i-p.false
