use Prim.Native.Nat.{◌+◌, ◌*◌}
use Rattle.bits.specs.Matrix.{rel}
use Rattle.model.specs.Table.{row_of}
use Rattle.run.specs.Layout.{mode_in, rows_in}
use Rattle.work_area.specs.Regions.{HAPPENS, MOMENTS}
use Rattle.finite.specs.Logic.{◌and◌, ◌or◌}
use Rattle.flags_location.specs.Chains.{available_part, show_off, show_on}
use mathlib.Core.Path.{ap}
use mathlib.Core.Bool.{not}
use Rattle.flags_location.proofs.chains.may_show.Goals as goal

pub returns-then-not-agent-meets : goal.returns-then-not-agent-meets
unfolding ◌and◌
returns-then-not-agent-meets c =
    let t = c.args.t.now.bytes in
    let before = rel c.args.w.now HAPPENS MOMENTS (3 * c.args.i + available_part (row_of (rows_in t) c.args.i)) in
    show_off _ c.args.w.now _ c.args.i _ _ _ _ c.agent-agent.ensures c.agent.ensures (rw c.flags-flags.ensures at c.meets.ensures)
    ((mode_in t).chains or before (3 * c.args.v) or before (3 * c.args.v + 2)) (ap not c.if-not-agent-meets.true)

pub returns : goal.returns
unfolding ◌and◌ ◌or◌
returns c =
    show_on _ _ _ _ _ _ _ _ c.agent-agent.ensures c.agent.ensures (rw c.flags-flags.ensures at c.meets.ensures) (ap not c.if-not-agent-meets.false) c.row.ensures c.available_part.ensures
    c.chains.ensures c.happens_bit.ensures c.happens_bit-2.ensures
