use native.Mathlib.Omega.{arith}
use Rattle.sets_grids.specs.Given.{given_few, given_kept}
use Rattle.sets_grids.specs.Grid.{grid_kept}
use Rattle.sets_engine.specs.Engine.{placing}
use Rattle.sets_engine.proofs.prepare.Goals as goal

pub fill_hosted-requires : goal.fill_hosted-requires
fill_hosted-requires c =
    let pre = c.requires in
    let few = given_few pre.0 in
    let made = c.fill_availability.ensures in
    (given_kept made.frame pre.0, grid_kept (λ h. absurd (omega arith)) made.frame pre.1.happening.rows, grid_kept (λ h. omega arith) made.frame pre.1.system)

pub fill_overlaps-requires : goal.fill_overlaps-requires
fill_overlaps-requires c =
    given_kept c.fill_hosted.ensures.frame (given_kept c.fill_availability.ensures.frame c.requires.0)

pub returns : goal.returns
returns c =
    let pre = c.requires in
    placing (given_few pre.0) pre.1 c.fill_availability.ensures c.fill_hosted.ensures c.fill_overlaps.ensures
