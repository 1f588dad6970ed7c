use mathlib.Core.Path.{refl, sym}
use native.Mathlib.Omega.{arith}
use Rattle.model.specs.Table.{decode}
use Rattle.sets_grids.specs.Given.{given_few}
use Rattle.sets_grids.specs.Grid.{grid_made}
use Rattle.ask_check.specs.Answers.{show_asked, rows_few, start_found, judge_cyclic, judge_on, edges_held}
use Rattle.ask_check.specs.Engine.{ready_by_sets, judge_kept}
use Rattle.ask_check.proofs.by_sets.judge_located.Goals as goal

pub show_cycle-size-requires : goal.show_cycle-size-requires
unfolding decode
show_cycle-size-requires c =
    let pre = c.requires in
    let few = given_few pre.2.given in
    let asked = show_asked _ _ _ _ _ _ _ refl (grid_made few c.fill_edges.ensures) c.in-Some.ensures.0.1 c.cycle_start.ensures.1 (ready_by_sets pre.2) c.in-Some.ensures.0.0 in
    (pre.0, pre.1.each, asked)

pub overflow_cast-result : goal.overflow_cast-result
unfolding decode
overflow_cast-result c =
    let small = given_few c.requires.2.given in
    let few = rows_few _ _ _ _ refl (start_found _ _ _ _ _ _ refl (grid_made small c.fill_edges.ensures) c.in-Some.ensures.0.1) c.in-Some.ensures.0.0 in
    omega (arith, few, c.show_cycle-size.ensures.0, small)

pub returns-in-Some : goal.returns-in-Some
unfolding decode
returns-in-Some c =
    let show = c.show_cycle-size.ensures in
    let small = given_few c.requires.2.given in
    judge_cyclic _ _ _ _ _ _ _ refl (grid_made small c.fill_edges.ensures) c.in-Some.ensures.0.1 c.cycle_start.ensures.1 _ _ _ _
    c.in-Some.ensures.0.0 show.0 show.1 show.2

pub settle-requires : goal.settle-requires
settle-requires c =
    let pre = c.requires in
    let small = given_few pre.2.given in
    let frame = (edges_held (grid_made small c.fill_edges.ensures) c.cycle_start.ensures.1).1 in
    (pre.1.each, judge_kept frame pre.2)

pub returns : goal.returns
unfolding decode
returns c =
    let small = given_few c.requires.2.given in
    judge_on _ _ _ _ _ _ _ refl (grid_made small c.fill_edges.ensures) (sym c.in_default.ensures.0) c.cycle_start.ensures.1 _ _ (omega arith) c.settle.ensures
