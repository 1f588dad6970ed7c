use Rattle.sets_of_rows.specs.First.{first_any}
use Rattle.sets_happens.specs.Behind.{joins_none, joins_some}
use Rattle.sets_happens.proofs.join_available.Goals as goal

pub returns-in_default : goal.returns-in_default
returns-in_default c = joins_none _ _ _ c.in_default.ensures

pub returns : goal.returns
returns c =
    joins_some _ _ _ c.requires.0 (first_any c.in-Some.ensures) c.in-Some.ensures c.by_release-to.ensures c.get-visible.ensures c.get-available.ensures c.join.ensures c.join-2.ensures c.join-3.ensures
