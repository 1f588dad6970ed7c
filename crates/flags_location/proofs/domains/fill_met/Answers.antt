use native.Mathlib.Omega.{arith}
use Rattle.work_area.specs.Regions.{MET_END}
use Rattle.work_area.specs.State.{ordered_kept}
use Rattle.flags_location.specs.Filling.{row_begun, row_more, grid_begun, grid_row, grid_done}
use Rattle.flags_location.proofs.domains.fill_met.Goals as goal

pub loop-m-init : goal.loop-m-init
loop-m-init c =
    grid_begun MET_END (omega arith) (ordered_kept (omega arith)) c.clear.ensures
    c.requires.holds

pub loop-y-init : goal.loop-y-init
loop-y-init c = row_begun c.loop-m.invariant.holds

pub loop-y-preserved : goal.loop-y-preserved
loop-y-preserved c =
    row_more MET_END (omega arith) (omega arith) (omega arith) (omega arith) (ordered_kept (omega arith))
    c.loop-y.invariant
    c.met_at-b.ensures c.put_if.ensures

pub loop-m-preserved : goal.loop-m-preserved
loop-m-preserved c = grid_row (omega arith) (omega arith) c.loop-m.invariant c.loop-y.invariant

pub returns : goal.returns
returns c =
    grid_done MET_END (omega arith) (omega arith) (omega arith) (omega arith) c.clear.ensures c.loop-m.invariant
