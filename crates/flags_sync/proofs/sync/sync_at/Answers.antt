use Rattle.finite.specs.Logic.{◌and◌, ◌or◌}
use Rattle.run_rows.specs.Forms.{sync_off, sync_on}
use mathlib.Core.Path.{ap}
use mathlib.Core.Bool.{not}
use Rattle.flags_sync.proofs.sync.sync_at.Goals as goal

pub returns-then-not-releases-acquires : goal.returns-then-not-releases-acquires
unfolding ◌and◌
returns-then-not-releases-acquires c =
    sync_off _ _ _ _ _ _ _ _ _ _ c.row-r.ensures c.row-q.ensures c.releases.ensures
    c.acquires.ensures (ap not c.if-not-releases-acquires.true)

pub returns : goal.returns
unfolding ◌and◌ ◌or◌
returns c =
    sync_on _ _ _ _ _ _ _ _ _ _ _ _ _ _ _ c.row-r.ensures c.row-q.ensures
    c.releases.ensures c.acquires.ensures (ap not c.if-not-releases-acquires.false)
    c.sync_atomics.ensures c.sync_from_barrier.ensures
    c.sync_to_barrier.ensures c.sync_barriers.ensures c.sync_control.ensures
