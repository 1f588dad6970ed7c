use mathlib.Core.Path.{refl}
use Rattle.finite.specs.Logic.{◌and◌, ◌or◌}
use Rattle.run_rows.specs.Forms.{sync_off}
use Rattle.ask_accepts.specs.Syncing.{sync_atomics_lem, sync_from, sync_to, sync_over}
use mathlib.Core.Path.{ap}
use mathlib.Core.Bool.{not}
use Rattle.ask_accepts.proofs.sync.sync_at.Goals as goal

pub returns-then-not-releases-acquires : goal.returns-then-not-releases-acquires
unfolding ◌and◌
returns-then-not-releases-acquires c =
    sync_off _ _ _ _ _ _ _ _ _ _ c.row-r.ensures c.row-q.ensures c.releases.ensures
    c.acquires.ensures (ap not c.if-not-releases-acquires.true)

pub returns-then-from-to : goal.returns-then-from-to
unfolding ◌and◌
returns-then-from-to c =
    sync_atomics_lem _ _ _ _ _ _ _ _ c.row-r.ensures c.row-q.ensures _ _ _ _ _ _ _
    c.releases.ensures c.acquires.ensures c.is_atomic-from.ensures
    c.is_atomic-to.ensures refl refl refl (ap not c.if-not-releases-acquires.false) _ c.if-from-to.true c.takes_from.ensures

pub returns-then-out-to : goal.returns-then-out-to
unfolding ◌and◌
returns-then-out-to c =
    sync_from _ _ _ _ _ _ _ _ c.row-r.ensures c.row-q.ensures _ _ _ _ _ _ _
    c.releases.ensures c.acquires.ensures c.is_atomic-from.ensures
    c.is_atomic-to.ensures c.is_barrier-out.ensures c.is_barrier-into.ensures
    c.together-near.ensures (ap not c.if-not-releases-acquires.false) _ c.if-out-to.true c.is_carried_out.ensures

pub returns-then-from-into : goal.returns-then-from-into
unfolding ◌and◌
returns-then-from-into c =
    sync_to _ _ _ _ _ _ _ _ c.row-r.ensures c.row-q.ensures _ _ _ _ _ _ _
    c.releases.ensures c.acquires.ensures c.is_atomic-from.ensures
    c.is_atomic-to.ensures c.is_barrier-out.ensures c.is_barrier-into.ensures
    c.together-near.ensures (ap not c.if-not-releases-acquires.false) _ c.if-from-into.true c.is_carried_in.ensures

pub returns : goal.returns
unfolding ◌and◌ ◌or◌
returns c =
    sync_over _ _ _ _ _ _ _ _ c.row-r.ensures c.row-q.ensures _ _ _ _ _ _ _
    c.releases.ensures c.acquires.ensures c.is_atomic-from.ensures
    c.is_atomic-to.ensures c.is_barrier-out.ensures c.is_barrier-into.ensures
    c.together-near.ensures (ap not c.if-not-releases-acquires.false) _ _ c.if-from-to.false c.if-out-to.false
    c.if-from-into.false c.is_carried_over.ensures c.is_passed.ensures
