use mathlib.Core.Path.{◌≡◌}
use Rattle.bits.specs.Within.{Within}
use Rattle.run.specs.Layout.{mode_in}
use Rattle.sets_grids.specs.Regions.{DEPENDS, DEPENDS_END}
use Prim.Native.Nat.{◌≤◌}
use Rattle.sets_order.specs.Depends.{DependsTo}
use Rattle.sets_order.proofs.system.fill_depends.Given as goal

abbrev pub invariant-loop-k : goal.invariant-loop-k
invariant-loop-k l = (l.k ≤ l.k-end) × (l.k-end ≡ (mode_in l.t.bytes).dependencies) × DependsTo l.t.rows (mode_in l.t.bytes).first (mode_in l.t.bytes).second l.k l.ends l.w × Within DEPENDS DEPENDS_END l.initial.w l.w
