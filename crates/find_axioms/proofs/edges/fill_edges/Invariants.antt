use mathlib.Core.Path.{◌≡◌}
use Prim.Native.Nat.{◌+◌, ◌*◌, ◌≤◌}
use lib.ListN.{length}
use Rattle.bits.specs.Fill.{row_fill, grid_fill}
use Rattle.model.specs.Edge.{edge}
use Rattle.run.specs.Layout.{table_of}
use Rattle.work_area.specs.Regions.{EDGE, GRID}
use Rattle.find_race.specs.Bytes.{Ready}
use Rattle.find_axioms.specs.Sources.{source_in}
use Rattle.find_axioms.proofs.edges.fill_edges.Given as goal

abbrev pub invariant-loop-y : goal.invariant-loop-y
invariant-loop-y l = (l.y ≤ l.t.rows) × (length l.w ≡ length l.initial.w) × Ready (table_of l.t) l.t.rows l.w
    × (l.w ≡ row_fill (edge (table_of l.t) (source_in l.src) l.x) l.initial.w (EDGE * 64 + l.x * (GRID * 64)) l.y)

abbrev pub invariant-loop-x : goal.invariant-loop-x
invariant-loop-x l = (l.x ≤ l.t.rows) × (length l.w ≡ length l.initial.w) × Ready (table_of l.t) l.t.rows l.w
    × (l.w ≡ grid_fill (edge (table_of l.t) (source_in l.src)) l.initial.w (EDGE * 64) (GRID * 64) l.t.rows l.x)
