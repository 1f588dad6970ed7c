use Rattle.finite.specs.Logic.{◌or◌}
use Rattle.door_admit.proofs.Laws.{begins_none, begins_some}
use borrow.Author.Tests.{not-false}
use mathlib.Core.Path.{ap}
use mathlib.Core.Bool.{not}
use Rattle.door_admit.proofs.table_faults.begins_at.Goals as goal

pub returns-then-not-is_rival : goal.returns-then-not-is_rival
returns-then-not-is_rival c =
    begins_none _ _ _ _ _ _ c.requires c.read_row-f.ensures c.is_rival.ensures
    c.if-not-is_rival.true

pub returns : goal.returns
unfolding ◌or◌
returns c =
    begins_some _ _ _ _ _ _ _ _ c.requires c.read_row-f.ensures c.is_rival.ensures
    (not-false _ (ap not c.if-not-is_rival.false)) c.any_outside.ensures c.is_outside.ensures
