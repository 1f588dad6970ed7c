use Rattle.door_admit.proofs.Laws.{class_none, class_some}
use borrow.Author.Tests.{not-false}
use mathlib.Core.Path.{ap}
use mathlib.Core.Bool.{not}
use Rattle.door_admit.proofs.table_faults.class_taken.Goals as goal

pub returns-then-not-is_access : goal.returns-then-not-is_access
returns-then-not-is_access c = class_none _ _ _ _ c.requires.0 c.is_access.ensures c.if-not-is_access.true

pub returns : goal.returns
returns c =
    class_some _ _ _ _ _ c.requires.0 c.is_access.ensures (not-false _ (ap not c.if-not-is_access.false))
    c.any_other_class.ensures
