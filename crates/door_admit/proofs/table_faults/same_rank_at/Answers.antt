use Rattle.finite.specs.Logic.{◌and◌}
use Rattle.model.specs.Table.{decode}
use Rattle.model.specs.TableFault.{same_rank_at}
use Rattle.door_admit.proofs.Laws.{rank_start}
use mathlib.Core.Path.{ap}
use mathlib.Core.Bool.{not}
use Rattle.door_admit.proofs.table_faults.same_rank_at.Goals as goal

pub returns-then-not-has_pair : goal.returns-then-not-has_pair
returns-then-not-has_pair c = rank_start _ _ _ _ _ _ c.requires c.has_pair.ensures (ap not c.if-not-has_pair.true)

pub returns : goal.returns
unfolding same_rank_at decode ◌and◌
returns c = cc
