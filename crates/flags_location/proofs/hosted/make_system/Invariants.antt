use Rattle.flags_location.specs.Domains.{depends}
use Rattle.work_area.specs.Regions.{SYSTEM, SYSTEM_END, GRID}
use Rattle.bits.specs.Stage.{Holds}
use Rattle.bits.specs.Within.{Within}
use lib.ListN.{length}
use Prim.Native.Nat.{◌≤◌}
use mathlib.Core.Path.{◌≡◌}
use Rattle.run.specs.Layout.{mode_in}
use Rattle.flags_location.proofs.hosted.make_system.Given as goal

abbrev pub invariant-loop-k : goal.invariant-loop-k
invariant-loop-k l = (l.k ≤ l.k-end) × (l.k-end ≡ (mode_in l.t.bytes).dependencies) × (length l.w ≡ length l.initial.w) × Holds SYSTEM GRID l.t.rows (depends (mode_in l.t.bytes) l.k) l.w × Within SYSTEM SYSTEM_END l.initial.w l.w
