use native.Mathlib.Omega.{arith}
use Rattle.work_area.specs.Regions.{REACHED_END}
use Rattle.flags_location.specs.Domains.{meeting_kept}
use Rattle.flags_location.specs.Filling.{row_begun, row_more, grid_begun, grid_row, grid_done}
use Rattle.flags_location.proofs.domains.fill_reached.Goals as goal

pub loop-a-init : goal.loop-a-init
loop-a-init c =
    grid_begun REACHED_END (omega arith) meeting_kept c.clear.ensures
    c.requires.holds

pub loop-y-init : goal.loop-y-init
loop-y-init c = row_begun c.loop-a.invariant.holds

pub loop-y-preserved : goal.loop-y-preserved
loop-y-preserved c =
    row_more REACHED_END (omega arith) (omega arith) (omega arith) (omega arith) meeting_kept
    c.loop-y.invariant
    c.reached_at-b.ensures c.put_if.ensures

pub loop-a-preserved : goal.loop-a-preserved
loop-a-preserved c = grid_row (omega arith) (omega arith) c.loop-a.invariant c.loop-y.invariant

pub returns : goal.returns
returns c =
    grid_done REACHED_END (omega arith) (omega arith) (omega arith) (omega arith) c.clear.ensures c.loop-a.invariant
