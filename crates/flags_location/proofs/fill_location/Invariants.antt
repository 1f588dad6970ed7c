use Rattle.run.specs.Layout.{table_of}
use Rattle.flags_location.specs.Order.{Prepared}
use Rattle.work_area.specs.Regions.{LOCATION, PAIR, PAIRS}
use Rattle.model.specs.Edge.{before_nth}
use Rattle.bits.specs.Cube.{cube_fill}
use lib.ListN.{length}
use Prim.Native.Nat.{◌*◌, ◌≤◌}
use mathlib.Core.Path.{◌≡◌}
use Rattle.flags_location.proofs.fill_location.Given as goal

abbrev pub invariant-loop-x : goal.invariant-loop-x
invariant-loop-x l = (l.x ≤ l.t.rows) × (length l.w ≡ length l.initial.w) × Prepared (table_of l.t) l.t.rows l.w
    × (l.w ≡ cube_fill (before_nth (table_of l.t)) l.initial.w (LOCATION * 64) PAIRS PAIR l.t.rows l.x)
