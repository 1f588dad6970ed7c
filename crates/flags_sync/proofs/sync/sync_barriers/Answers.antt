use Rattle.finite.specs.Logic.{◌and◌}
use Rattle.run_rows.specs.Forms.{over_off, over_on}
use mathlib.Core.Path.{ap}
use mathlib.Core.Bool.{not}
use Rattle.flags_sync.proofs.sync.sync_barriers.Goals as goal

pub returns-then-not-is_near : goal.returns-then-not-is_near
unfolding ◌and◌
returns-then-not-is_near c =
    over_off _ _ _ _ _ _ _ _ _ c.row-r.ensures c.row-q.ensures (rw (c.is_barrier.ensures, c.is_barrier-2.ensures) at c.is_near.ensures) (ap not c.if-not-is_near.true)

pub returns : goal.returns
unfolding ◌and◌
returns c =
    over_on _ _ _ _ _ _ _ _ _ _ c.row-r.ensures c.row-q.ensures (rw (c.is_barrier.ensures, c.is_barrier-2.ensures) at c.is_near.ensures) (ap not c.if-not-is_near.false) c.is_carried_over.ensures
