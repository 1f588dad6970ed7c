use Rattle.run.specs.Layout.{table_of}
use Rattle.model.specs.Scope.{mutually}
use Rattle.model.specs.Synchronizes.{sequence}
use Rattle.work_area.specs.Regions.{MUTUAL, SEQUENCE, GRID}
use mathlib.Core.Path.{◌≡◌}
use Prim.Native.Nat.{◌+◌, ◌*◌, ◌≤◌}
use lib.ListN.{length}
use Rattle.bits.specs.Fill.{row_fill, grid_fill}
use Rattle.bits.specs.Stage.{Holds}
use Rattle.flags_sync.proofs.heads.fill_sequence.Given as goal

abbrev pub invariant-loop-x : goal.invariant-loop-x
invariant-loop-x l = (l.x ≤ l.t.rows) × (length l.w ≡ length l.initial.w) × Holds MUTUAL GRID l.t.rows (mutually (table_of l.t)) l.w
    × (l.w ≡ row_fill (sequence (table_of l.t) l.a) l.initial.w (SEQUENCE * 64 + l.a * (GRID * 64)) l.x)

abbrev pub invariant-loop-a : goal.invariant-loop-a
invariant-loop-a l = (l.a ≤ l.t.rows) × (length l.w ≡ length l.initial.w) × Holds MUTUAL GRID l.t.rows (mutually (table_of l.t)) l.w
    × (l.w ≡ grid_fill (sequence (table_of l.t)) l.initial.w (SEQUENCE * 64) (GRID * 64) (l.t.rows) l.a)
