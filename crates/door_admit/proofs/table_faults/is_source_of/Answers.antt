use Rattle.finite.specs.Logic.{◌and◌, ◌or◌}
use Rattle.model.specs.Table.{decode}
use Rattle.door_admit.proofs.Laws.{source_initial, source_other}
use Rattle.door_admit.proofs.table_faults.is_source_of.Goals as goal

pub returns-then-is_initial : goal.returns-then-is_initial
returns-then-is_initial c = source_initial _ _ _ _ _ c.is_initial.ensures c.if-is_initial.true

pub returns : goal.returns
unfolding decode ◌and◌ ◌or◌
returns c = rw (source_other _ _ _ _ _ c.is_initial.ensures c.if-is_initial.false) cc
