use Rattle.sets_of_rows.specs.First.{first_any}
use Rattle.sets_happens.specs.Behind.{joins_visible_none, joins_visible}
use Rattle.sets_happens.proofs.join_visible.Goals as goal

pub returns-in_default : goal.returns-in_default
returns-in_default c = joins_visible_none _ _ _ c.in_default.ensures

pub returns : goal.returns
returns c =
    joins_visible _ c.requires.0 (first_any c.in-Some.ensures) c.in-Some.ensures c.get-visible.ensures c.join.ensures
