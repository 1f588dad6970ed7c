use native.Mathlib.Omega.{arith}
use Rattle.work_area.specs.Regions.{REACH_OUT_END}
use Rattle.work_area.specs.State.{ordered_kept}
use Rattle.flags_location.specs.Filling.{row_begun, row_more, grid_begun, grid_row, grid_done}
use Rattle.flags_location.proofs.reach.fill_out.Goals as goal

pub loop-a-init : goal.loop-a-init
loop-a-init c =
    grid_begun REACH_OUT_END (omega arith) (ordered_kept (omega arith)) c.clear.ensures
    c.requires.holds

pub loop-c-init : goal.loop-c-init
loop-c-init c = row_begun c.loop-a.invariant.holds

pub loop-c-preserved : goal.loop-c-preserved
loop-c-preserved c =
    row_more REACH_OUT_END (omega arith) (omega arith) (omega arith) (omega arith) (ordered_kept (omega arith))
    c.loop-c.invariant
    c.broadens_at-b.ensures c.put_if.ensures

pub loop-a-preserved : goal.loop-a-preserved
loop-a-preserved c = grid_row (omega arith) (omega arith) c.loop-a.invariant c.loop-c.invariant

pub returns : goal.returns
returns c =
    grid_done REACH_OUT_END (omega arith) (omega arith) (omega arith) (omega arith) c.clear.ensures c.loop-a.invariant
