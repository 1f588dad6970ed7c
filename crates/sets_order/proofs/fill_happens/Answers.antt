use mathlib.Core.Path.{◌∙◌}
use Rattle.bits.specs.Within.{within_refl, within_trans, within_widen}
use Rattle.sets_grids.specs.Regions.{HAPPENS, REACH_END}
use Rattle.sets_grids.specs.Grid.{grid_kept}
use Rattle.sets_order.specs.Inter.{wide_none, done_cong, leading_kept}
use Rattle.sets_order.specs.Enough.{happening_all}
use borrow.Author.Rules.{rules}
use native.Mathlib.Omega.{arith}
use Rattle.sets_order.proofs.fill_happens.Goals as goal

pub put_program_order-requires : goal.put_program_order-requires
put_program_order-requires c = c.requires.given

pub loop-c-init : goal.loop-c-init
loop-c-init c =
    (search rules, search rules, done_cong c.requires.given.opened.rows (λ k l. wide_none _ k) c.put_program_order.ensures.order, grid_kept (λ o. omega arith) c.put_program_order.ensures.frame c.requires.depends, within_refl _ _ _)

pub add_widest-requires : goal.add_widest-requires
add_widest-requires c =
    (record { some = c.loop-c.invariant.0; low = c.loop-c-test.true }, leading_kept (within_trans (within_widen HAPPENS REACH_END (omega arith) (omega arith) c.put_program_order.ensures.frame) c.loop-c.invariant.4) c.loop-c.invariant.3 c.requires)

pub loop-c-preserved : goal.loop-c-preserved
loop-c-preserved c =
    let inv = c.loop-c.invariant in
    let a = c.add_widest.ensures in
    (search rules, search rules, a.order inv.2, a.depends inv.3, within_trans inv.4 a.frame)

pub shape_of-w : goal.shape_of-w
shape_of-w c = c.loop-c.invariant.4.len ∙ c.put_program_order.ensures.frame.len

pub returns : goal.returns
returns c =
    record { happening = happening_all c.requires.given.opened.rows (omega (arith, c.loop-c-test.false, c.loop-c.invariant.1)) c.loop-c.invariant.2; frame = within_trans (within_widen HAPPENS REACH_END (omega arith) (omega arith) c.put_program_order.ensures.frame) c.loop-c.invariant.4 }
