use Rattle.sets_of_rows.specs.First.{first_any}
use Rattle.sets_happens.specs.Behind.{by_none, by_some}
use Rattle.sets_happens.proofs.by_release.Goals as goal

pub returns-in_default : goal.returns-in_default
returns-in_default c = by_none _ _ _ _ c.in_default.ensures c.none.ensures

pub returns : goal.returns
returns c =
    by_some _ _ _ _ (first_any c.in-Some.ensures) c.in-Some.ensures c.bit.ensures c.get.ensures c.bitor.ensures
