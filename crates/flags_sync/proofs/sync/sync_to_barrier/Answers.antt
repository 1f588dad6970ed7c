use Rattle.finite.specs.Logic.{◌and◌}
use Rattle.run_rows.specs.Forms.{to_off, to_on}
use mathlib.Core.Path.{ap}
use mathlib.Core.Bool.{not}
use Rattle.flags_sync.proofs.sync.sync_to_barrier.Goals as goal

pub returns-then-not-is_near : goal.returns-then-not-is_near
unfolding ◌and◌
returns-then-not-is_near c =
    to_off _ _ _ _ _ _ _ _ _ c.row-r.ensures c.row-q.ensures (rw (c.is_atomic.ensures, c.is_barrier.ensures) at c.is_near.ensures) (ap not c.if-not-is_near.true)

pub returns : goal.returns
unfolding ◌and◌
returns c =
    to_on _ _ _ _ _ _ _ _ _ _ c.row-r.ensures c.row-q.ensures (rw (c.is_atomic.ensures, c.is_barrier.ensures) at c.is_near.ensures) (ap not c.if-not-is_near.false) c.is_carried_in.ensures
