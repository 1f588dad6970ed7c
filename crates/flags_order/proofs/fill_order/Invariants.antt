use Rattle.run.specs.Layout.{table_of}
use Rattle.model.specs.Moment.{program_order}
use Rattle.work_area.specs.Regions.{HAPPENS, MOMENTS}
use mathlib.Core.Path.{◌≡◌}
use Prim.Native.Nat.{◌+◌, ◌*◌, ◌≤◌}
use lib.ListN.{length}
use Rattle.bits.specs.Fill.{row_fill, grid_fill}
use Rattle.flags_order.proofs.fill_order.Given as goal

abbrev pub invariant-loop-k : goal.invariant-loop-k
invariant-loop-k l = (l.k ≤ 3 * l.t.rows) × (length l.w ≡ length l.initial.w) × (l.w ≡ row_fill (program_order (table_of l.t) l.m) l.initial.w (HAPPENS * 64 + l.m * (MOMENTS * 64)) l.k)

abbrev pub invariant-loop-m : goal.invariant-loop-m
invariant-loop-m l = (l.m ≤ 3 * l.t.rows) × (length l.w ≡ length l.initial.w) × (l.w ≡ grid_fill (program_order (table_of l.t)) l.initial.w (HAPPENS * 64) (MOMENTS * 64) (3 * l.t.rows) l.m)
