use Rattle.run.specs.Layout.{table_of}
use Rattle.model.specs.Scope.{mutually}
use Rattle.work_area.specs.Regions.{MUTUAL, GRID}
use mathlib.Core.Path.{◌≡◌}
use Prim.Native.Nat.{◌+◌, ◌*◌, ◌≤◌}
use lib.ListN.{length}
use Rattle.bits.specs.Fill.{row_fill, grid_fill}
use Rattle.flags_sync.proofs.heads.fill_mutual.Given as goal

abbrev pub invariant-loop-j : goal.invariant-loop-j
invariant-loop-j l = (l.j ≤ l.t.rows) × (length l.w ≡ length l.initial.w) × (l.w ≡ row_fill (mutually (table_of l.t) l.i) l.initial.w (MUTUAL * 64 + l.i * (GRID * 64)) l.j)

abbrev pub invariant-loop-i : goal.invariant-loop-i
invariant-loop-i l = (l.i ≤ l.t.rows) × (length l.w ≡ length l.initial.w) × (l.w ≡ grid_fill (mutually (table_of l.t)) l.initial.w (MUTUAL * 64) (GRID * 64) (l.t.rows) l.i)
