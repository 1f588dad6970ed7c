use native.Mathlib.Omega.{arith}
use Rattle.work_area.specs.Regions.{REACH_IN_END}
use Rattle.work_area.specs.State.{ordered_kept}
use Rattle.flags_location.specs.Filling.{row_begun, row_more, grid_begun, grid_row, grid_done}
use Rattle.flags_location.proofs.reach.fill_in.Goals as goal

pub loop-j-init : goal.loop-j-init
loop-j-init c =
    grid_begun REACH_IN_END (omega arith) (ordered_kept (omega arith)) c.clear.ensures
    c.requires.holds

pub loop-v-init : goal.loop-v-init
loop-v-init c = row_begun c.loop-j.invariant.holds

pub loop-v-preserved : goal.loop-v-preserved
loop-v-preserved c =
    row_more REACH_IN_END (omega arith) (omega arith) (omega arith) (omega arith) (ordered_kept (omega arith))
    c.loop-v.invariant
    c.narrows_at-b.ensures c.put_if.ensures

pub loop-j-preserved : goal.loop-j-preserved
loop-j-preserved c = grid_row (omega arith) (omega arith) c.loop-j.invariant c.loop-v.invariant

pub returns : goal.returns
returns c =
    grid_done REACH_IN_END (omega arith) (omega arith) (omega arith) (omega arith) c.clear.ensures c.loop-j.invariant
