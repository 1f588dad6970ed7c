use Rattle.door_admit.proofs.Laws.{reference_off, reference_on}
use mathlib.Core.Path.{ap}
use mathlib.Core.Bool.{not}
use Rattle.door_admit.proofs.table_faults.is_of_reference.Goals as goal

pub returns-then-not-has_pair : goal.returns-then-not-has_pair
returns-then-not-has_pair c = reference_off _ _ _ _ c.has_pair.ensures (ap not c.if-not-has_pair.true)

pub returns : goal.returns
returns c = reference_on _ _ _ _ _ c.has_pair.ensures (ap not c.if-not-has_pair.false) c.read_kind.ensures
