use mathlib.Core.Path.{◌≡◌}
use Prim.Native.Nat.{◌*◌, ◌≤◌}
use lib.ListN.{length}
use Rattle.bits.specs.Stage.{Added}
use Rattle.work_area.specs.Regions.{STEP, STEP_END, MOMENTS}
use Rattle.flags_order.specs.System.{system_to}
use Rattle.run.specs.Layout.{mode_in}
use Rattle.flags_order.proofs.steps.add_dependencies.Given as goal

abbrev pub invariant-loop-c : goal.invariant-loop-c
invariant-loop-c l = (l.c ≤ l.c-end) × (l.c-end ≡ (mode_in l.t.bytes).dependencies) × (length l.w ≡ length l.initial.w) × Added STEP STEP_END STEP MOMENTS (3 * l.t.rows) (system_to (mode_in l.t.bytes) l.c) l.initial.w l.w
