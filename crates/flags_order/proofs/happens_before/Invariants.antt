use Rattle.run.specs.Layout.{table_of}
use mathlib.Core.Path.{◌≡◌}
use Prim.Native.Nat.{◌*◌, ◌≤◌}
use lib.ListN.{length}
use Rattle.bits.specs.Within.{Within}
use Rattle.bits.specs.Stage.{Holds}
use Rattle.model.specs.Limits.{CLASS_SETS}
use Rattle.work_area.specs.Regions.{HAPPENS, STEP_END, MOMENTS}
use Rattle.work_area.specs.Synced.{Synced}
use Rattle.flags_order.specs.Sets.{up_to}
use Rattle.flags_order.proofs.happens_before.Given as goal

abbrev pub invariant-loop-s : goal.invariant-loop-s
invariant-loop-s l = (l.s ≤ CLASS_SETS) × (length l.w ≡ length l.initial.w) × Synced (table_of l.t) l.t.rows l.w × Holds HAPPENS MOMENTS (3 * l.t.rows) (up_to (table_of l.t) l.s) l.w
    × Within HAPPENS STEP_END l.initial.w l.w
