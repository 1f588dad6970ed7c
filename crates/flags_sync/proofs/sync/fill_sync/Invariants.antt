use Rattle.run.specs.Layout.{table_of}
use Rattle.model.specs.Synchronizes.{synchronizes}
use Rattle.work_area.specs.Regions.{SYNC, GRID}
use Rattle.work_area.specs.Synced.{Sequenced}
use mathlib.Core.Path.{◌≡◌}
use Prim.Native.Nat.{◌+◌, ◌*◌, ◌≤◌}
use lib.ListN.{length}
use Rattle.bits.specs.Fill.{row_fill, grid_fill}
use Rattle.flags_sync.proofs.sync.fill_sync.Given as goal

abbrev pub invariant-loop-b : goal.invariant-loop-b
invariant-loop-b l = (l.b ≤ l.t.rows) × (length l.w ≡ length l.initial.w) × Sequenced (table_of l.t) l.t.rows l.w
    × (l.w ≡ row_fill (synchronizes (table_of l.t) l.a) l.initial.w (SYNC * 64 + l.a * (GRID * 64)) l.b)

abbrev pub invariant-loop-a : goal.invariant-loop-a
invariant-loop-a l = (l.a ≤ l.t.rows) × (length l.w ≡ length l.initial.w) × Sequenced (table_of l.t) l.t.rows l.w
    × (l.w ≡ grid_fill (synchronizes (table_of l.t)) l.initial.w (SYNC * 64) (GRID * 64) (l.t.rows) l.a)
