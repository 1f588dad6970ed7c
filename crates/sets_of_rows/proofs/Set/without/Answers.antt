use Rattle.sets_of_rows.specs.Member.{drop_is}
use Rattle.sets_of_rows.proofs.Set.without.Goals as goal

pub returns : goal.returns
returns c = drop_is _ _ _ _ c.bit.ensures c.sub.ensures
