use mathlib.Core.Path.{sym, ◌∙◌}
use Rattle.sets_grids.specs.Given.{given_few}
use Rattle.bits.specs.Within.{within_refl, within_trans, within_widen, within_cleared}
use Rattle.sets_grids.specs.Regions.{REACH_AT, SYSTEM, SYSTEM_END}
use Rattle.sets_grids.specs.Grid.{grid_on_kept}
use Rattle.sets_of_rows.specs.Rows.{rows_at}
use Rattle.sets_happens.specs.Adding.{add_begin, add_turn, row_before, puts_adds, puts_put, puts_cong, made_grid, empty_cleared, empty_kept}
use Rattle.sets_of_rows.specs.Walk.{walk_less, walk_in}
use Rattle.sets_order.specs.System.{told_rows, system_order, end_node, asks_none}
use native.Mathlib.Omega.{arith}
use Rattle.sets_order.proofs.system.fill_system.Goals as goal

pub clear-requires : goal.clear-requires
clear-requires c = let a = c.requires.given.room in omega arith

pub of_none-k-requires : goal.of_none-k-requires
of_none-k-requires c =
    (c.requires.told, c.requires.given.opened)

pub fill_reach-requires : goal.fill_reach-requires
fill_reach-requires c =
    asks_none c.requires c.of_none-k.ensures (within_cleared SYSTEM SYSTEM_END (omega arith) c.clear.ensures)

pub loop-i-init : goal.loop-i-init
loop-i-init c = rw c.into_iter-i-iterator.ensures.into_iter_gives ((add_begin _ _ _ _, within_refl _ _ _))

pub get-to-requires : goal.get-to-requires
get-to-requires c =
    let a = c.requires.given.room in let b = c.in-Some.ensures.steps.0.bound in let d = c.loop-i.invariant.1.len in let e = c.fill_reach.ensures.frame.len in let f = (within_cleared SYSTEM SYSTEM_END (omega arith) c.clear.ensures).len in omega arith

pub put-requires : goal.put-requires
put-requires c =
    let a = c.requires.given.room in let b = c.in-Some.ensures.steps.0.bound in let d = c.loop-i.invariant.1.len in let e = c.fill_reach.ensures.frame.len in let f = (within_cleared SYSTEM SYSTEM_END (omega arith) c.clear.ensures).len in omega arith

pub loop-i-preserved : goal.loop-i-preserved
loop-i-preserved c =
    let inv = c.loop-i.invariant in
    let low = c.in-Some.ensures.steps.0 in
    let mem = walk_in inv.0.walk low in
    let few = given_few c.requires.given in
    let l = c.requires.told.rows _ mem in
    let z = rows_at c.get-to.ensures ((grid_on_kept (λ o. absurd (omega (arith, o, few))) inv.1 c.fill_reach.ensures.at).row _ l (end_node _ _ _ mem)) in (
      add_turn _ _ _ _ inv.0 low c.in-Some.ensures.steps.1
          (puts_adds (λ j. row_before _ _ _ _ inv.0 low j ∙ (empty_kept (λ o. omega arith) c.fill_reach.ensures.frame (empty_cleared SYSTEM SYSTEM SYSTEM_END _ (omega arith) (omega arith) (let a = c.requires.given.room in omega arith) c.clear.ensures)).is _ j low.bound)
          (puts_cong z.is (puts_put {base = SYSTEM} _ c.put.ensures))),
      within_trans inv.1 (within_widen SYSTEM SYSTEM_END (omega arith) (omega (arith, low.bound)) c.put.ensures.frame),
    )

pub shape_of-w : goal.shape_of-w
shape_of-w c =
    c.loop-i.invariant.1.len ∙ c.fill_reach.ensures.frame.len ∙ (within_cleared SYSTEM SYSTEM_END (omega arith) c.clear.ensures).len

pub returns : goal.returns
returns c =
    let inv = c.loop-i.invariant in
    record {
      grid = made_grid _ _ (given_few c.requires.given) (told_rows c.requires.told) (λ i j l m. system_order _ c.requires.given.opened.fit _ c.requires.given.opened.rows c.requires.told i j l m) _ c.in-None.ensures.steps.0 inv.0
          (empty_kept (λ o. omega arith) c.fill_reach.ensures.frame (empty_cleared SYSTEM SYSTEM SYSTEM_END _ (omega arith) (omega arith) (let a = c.requires.given.room in omega arith) c.clear.ensures));
      frame = within_trans (within_widen REACH_AT SYSTEM_END (omega arith) (omega arith) (within_cleared SYSTEM SYSTEM_END (omega arith) c.clear.ensures))
          (within_trans (within_widen REACH_AT SYSTEM_END (omega arith) (omega arith) c.fill_reach.ensures.frame) (within_widen REACH_AT SYSTEM_END (omega arith) (omega arith) inv.1));
    }
