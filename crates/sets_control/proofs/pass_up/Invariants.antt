use mathlib.Core.Path.{◌≡◌}
use Prim.Native.Nat.{◌≤◌}
use lib.ListN.{length}
use Rattle.run.specs.Layout.{table_of}
use Rattle.bits.specs.Within.{Within}
use Rattle.sets_grids.specs.Regions.{PASSED, PASSED_END}
use Rattle.sets_control.specs.Passed.{Passing}
use Rattle.sets_control.proofs.pass_up.Given as goal

abbrev pub invariant-loop-a : goal.invariant-loop-a
invariant-loop-a l = (l.a ≤ l.t.rows) × (length l.passing ≡ length l.initial.passing) × (length l.w ≡ length l.initial.w) × Passing (table_of l.t) l.t.rows l.a l.passing l.w × Within PASSED PASSED_END l.initial.w l.w
