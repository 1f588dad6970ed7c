use Rattle.door_admit.proofs.Laws.{source_none, source_some}
use mathlib.Core.Path.{ap}
use mathlib.Core.Bool.{not}
use Rattle.door_admit.proofs.table_faults.source_broken.Goals as goal

pub returns-then-not-reads : goal.returns-then-not-reads
returns-then-not-reads c = source_none _ _ _ _ _ _ c.requires c.reads.ensures (ap not c.if-not-reads.true)

pub returns : goal.returns
returns c =
    source_some _ _ _ _ _ _ c.requires c.reads.ensures _ _ (ap not c.if-not-reads.false) c.read_source.ensures
    c.is_source_of.ensures
