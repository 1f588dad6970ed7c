use mathlib.Core.Path.{◌∙◌}
use Rattle.sets_grids.specs.Given.{given_few}
use Rattle.sets_order.specs.Order.{depending_of, leading_of, made_order}
use native.Mathlib.Omega.{arith}
use Rattle.sets_order.proofs.order.Goals as goal

pub fill_depends-ends-requires : goal.fill_depends-ends-requires
fill_depends-ends-requires c = (c.requires.0, c.requires.1.room)

pub leads_down-depends_down-requires : goal.leads_down-depends_down-requires
leads_down-depends_down-requires c =
    let a = c.requires.1.room in let b = c.fill_depends-ends.ensures.frame.len in omega arith

pub rows-requires : goal.rows-requires
rows-requires c =
    let a = c.requires.1.opened.space in omega arith

pub leads_down-sync_down-requires : goal.leads_down-sync_down-requires
leads_down-sync_down-requires c =
    let a = c.requires.1.room in let b = c.fill_depends-ends.ensures.frame.len in omega arith

pub fill_system-requires : goal.fill_system-requires
fill_system-requires c =
    depending_of c.requires.1 c.requires.2 c.fill_depends-ends.ensures

pub fill_happens-requires : goal.fill_happens-requires
fill_happens-requires c =
    leading_of (depending_of c.requires.1 c.requires.2 c.fill_depends-ends.ensures) c.fill_system.ensures

pub shape_of-w : goal.shape_of-w
shape_of-w c =
    c.fill_happens.ensures.frame.len ∙ c.fill_system.ensures.frame.len ∙ c.fill_depends-ends.ensures.frame.len

pub returns : goal.returns
returns c =
    made_order (given_few c.requires.1) c.fill_depends-ends.ensures c.fill_system.ensures c.fill_happens.ensures
