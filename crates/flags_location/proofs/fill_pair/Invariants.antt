use Rattle.run.specs.Layout.{table_of}
use mathlib.Core.Path.{◌≡◌}
use Prim.Native.Nat.{◌+◌, ◌*◌, ◌≤◌}
use lib.ListN.{length}
use Rattle.bits.specs.Fill.{row_fill}
use Rattle.model.specs.Edge.{before_nth}
use Rattle.work_area.specs.Regions.{LOCATION, PAIR, PAIRS}
use Rattle.flags_location.specs.Order.{Prepared}
use Rattle.flags_location.proofs.fill_pair.Given as goal

abbrev pub invariant-loop-k : goal.invariant-loop-k
invariant-loop-k l = (l.k ≤ PAIR) × (length l.w ≡ length l.initial.w) × Prepared (table_of l.t) l.t.rows l.w
    × (l.w ≡ row_fill (before_nth (table_of l.t) l.x l.y) l.initial.w (LOCATION * 64 + l.x * PAIRS + l.y * PAIR) l.k)
