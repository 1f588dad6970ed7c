use Rattle.run.specs.Layout.{table_of}
use mathlib.Core.Path.{◌≡◌}
use Prim.Native.Nat.{◌+◌, ◌*◌, ◌≤◌}
use lib.ListN.{length}
use Rattle.bits.specs.Fill.{grid_fill}
use Rattle.model.specs.Edge.{before_nth}
use Rattle.work_area.specs.Regions.{LOCATION, PAIR, PAIRS}
use Rattle.flags_location.specs.Order.{Prepared}
use Rattle.flags_location.proofs.fill_row.Given as goal

abbrev pub invariant-loop-y : goal.invariant-loop-y
invariant-loop-y l = (l.y ≤ l.t.rows) × (length l.w ≡ length l.initial.w) × Prepared (table_of l.t) l.t.rows l.w
    × (l.w ≡ grid_fill (before_nth (table_of l.t) l.x) l.initial.w (LOCATION * 64 + l.x * PAIRS) PAIR PAIR l.y)
