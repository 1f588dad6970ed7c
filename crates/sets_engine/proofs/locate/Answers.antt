use Rattle.sets_grids.specs.Given.{given_few, given_kept}
use Rattle.sets_engine.specs.Engine.{given_of, judging}
use Rattle.sets_engine.proofs.locate.Goals as goal

pub order-requires : goal.order-requires
order-requires c =
    let pre = c.requires in
    (pre.0, given_of pre.0 c.prepare.ensures pre.1 pre.2)

pub prepare-requires-2 : goal.prepare-requires-2
prepare-requires-2 c =
    let pre = c.requires in
    let made = c.order.ensures in
    (given_kept made.frame (given_of pre.0 c.prepare.ensures pre.1 pre.2), made.ordered)

pub fill_location-requires : goal.fill_location-requires
fill_location-requires c =
    let pre = c.requires in
    let made = c.prepare-2.ensures in
    let given = given_of pre.0 c.prepare.ensures pre.1 pre.2 in
    (given_kept made.frame (given_kept c.order.ensures.frame given), made.placing.locating)

pub returns : goal.returns
returns c =
    let pre = c.requires in
    let given = given_of {w = c.args.w.now} pre.0 c.prepare.ensures pre.1 pre.2 in
    judging (given_few given) given.opened c.order.ensures c.prepare-2.ensures c.fill_location.ensures
