use Rattle.finite.specs.Logic.{◌and◌}
use Rattle.run_rows.specs.Forms.{from_off, from_on}
use mathlib.Core.Path.{ap}
use mathlib.Core.Bool.{not}
use Rattle.flags_sync.proofs.sync.sync_from_barrier.Goals as goal

pub returns-then-not-is_near : goal.returns-then-not-is_near
unfolding ◌and◌
returns-then-not-is_near c =
    from_off _ _ _ _ _ _ _ _ _ c.row-r.ensures c.row-q.ensures (rw (c.is_barrier.ensures, c.is_atomic.ensures) at c.is_near.ensures) (ap not c.if-not-is_near.true)

pub returns : goal.returns
unfolding ◌and◌
returns c =
    from_on _ _ _ _ _ _ _ _ _ _ c.row-r.ensures c.row-q.ensures (rw (c.is_barrier.ensures, c.is_atomic.ensures) at c.is_near.ensures) (ap not c.if-not-is_near.false) c.is_carried_out.ensures
