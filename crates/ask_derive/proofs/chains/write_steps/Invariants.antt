use Prim.Native.Nat.{◌-◌, ◌*◌, ◌≤◌, ◌<◌}
use Rattle.bits.specs.Matrix.{rel}
use Rattle.finite.specs.Lists.{Written}
use Rattle.finite.specs.Walk.{trail, along}
use Rattle.model.specs.Reason.{step_number}
use Rattle.run.specs.Layout.{table_of}
use Rattle.work_area.specs.Regions.{STEP, MOMENTS}
use Rattle.work_walks.specs.Left.{Left}
use lib.ListN.{length}
use mathlib.Core.Path.{◌≡◌}
use Rattle.ask_derive.proofs.chains.write_steps.Given as goal

abbrev pub invariant-loop-i : goal.invariant-loop-i
invariant-loop-i l = (l.i ≤ l.size) × (l.z < 3 * l.t.rows) × (length l.c ≡ length l.initial.c) × Left (3 * l.t.rows) (rel l.w STEP MOMENTS) l.second l.size l.first l.i (l.size - l.i) l.z
    × Written (along (step_number (table_of l.t) l.s) l.second (trail (3 * l.t.rows) (rel l.w STEP MOMENTS) l.second l.size l.first)) l.i l.initial.c l.c
