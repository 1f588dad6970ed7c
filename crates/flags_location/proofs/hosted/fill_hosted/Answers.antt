use native.Mathlib.Omega.{arith}
use Rattle.work_area.specs.Regions.{HOSTED_END}
use Rattle.flags_location.specs.Domains.{sources_kept}
use Rattle.flags_location.specs.Filling.{row_begun, row_more, grid_begun, grid_row, grid_done}
use Rattle.flags_location.proofs.hosted.fill_hosted.Goals as goal

pub loop-x-init : goal.loop-x-init
loop-x-init c =
    grid_begun HOSTED_END (omega arith) sources_kept c.clear.ensures
    c.requires.holds

pub loop-y-init : goal.loop-y-init
loop-y-init c = row_begun c.loop-x.invariant.holds

pub loop-y-preserved : goal.loop-y-preserved
loop-y-preserved c =
    row_more HOSTED_END (omega arith) (omega arith) (omega arith) (omega arith) sources_kept
    c.loop-y.invariant
    c.hosted_at-b.ensures c.put_if.ensures

pub loop-x-preserved : goal.loop-x-preserved
loop-x-preserved c = grid_row (omega arith) (omega arith) c.loop-x.invariant c.loop-y.invariant

pub returns : goal.returns
returns c =
    grid_done HOSTED_END (omega arith) (omega arith) (omega arith) (omega arith) c.clear.ensures c.loop-x.invariant
