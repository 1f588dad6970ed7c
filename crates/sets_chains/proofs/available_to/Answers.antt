use mathlib.Core.Path.{sym, ◌∙◌}
use Rattle.model.specs.Table.{decode}
use Rattle.sets_of_rows.specs.Walk.{walk_less, walk_in, gather_begin, gather_turn, gather_end}
use Rattle.sets_of_table.specs.Ask.{scope_low}
use Rattle.sets_grids.specs.Filling.{member_in}
use Rattle.sets_grids.specs.Grid.{grid_at}
use Rattle.sets_chains.specs.Filled.{met_off, met_on, met_rows}
use native.Mathlib.Omega.{arith}
use Rattle.sets_chains.proofs.available_to.Goals as goal

pub loop-c-init : goal.loop-c-init
loop-c-init c = rw c.into_iter-c-iterator.ensures.into_iter_gives (gather_begin _ _ (met_off _ _ _ _) _ c.none-at.ensures)

pub scope-requires : goal.scope-requires
scope-requires c = c.in-Some.ensures.steps.0.bound

pub sharing-domain-requires : goal.sharing-domain-requires
unfolding decode
sharing-domain-requires c =
    let pre = c.requires in
    let m = member_in _ pre.0.ends (walk_in c.loop-c.invariant.0 c.in-Some.ensures.steps.0) in
    let a = scope_low pre.1.opened _ m.0 in
    let e = c.scope.ensures in
    (pre.0.low, omega arith, pre.1.opened)

pub get-requires : goal.get-requires
get-requires c =
    omega (arith, c.in-Some.ensures.steps.0.bound, c.requires.1.room)

pub has-requires : goal.has-requires
has-requires c =
    c.in-Some.ensures.steps.0.bound

pub loop-c-preserved : goal.loop-c-preserved
unfolding decode
loop-c-preserved c =
    let pre = c.requires in
    let m = member_in _ pre.0.ends (walk_in c.loop-c.invariant.0 c.in-Some.ensures.steps.0) in
    let f = c.sharing-domain.ensures in
    gather_turn _ _ (met_off _ _ _ _) c.loop-c.invariant c.in-Some.ensures.steps.0 c.in-Some.ensures.steps.1
    (met_on _ _ _ _ _ _ _ _ _ _ _ _ m.0 (rw c.scope.ensures at f) (grid_at pre.2.rows m.0 c.get.ensures) c.bitand-to.ensures c.has.ensures c.only_if.ensures c.bitor_assign.ensures.after)

pub returns : goal.returns
returns c =
    met_rows c.requires.1.opened _ _ _ c.requires.0.ends (gather_end _ _ (met_off _ _ _ _) _ _ c.in-None.ensures.steps.0 c.loop-c.invariant.1)
