use mathlib.Core.Path.{refl, sym, ◌∙◌}
use native.Mathlib.Omega.{arith}
use Rattle.bits.specs.Within.{within_refl, within_trans, within_widen, within_cleared}
use Rattle.sets_of_rows.specs.Walk.{walk_in, walk_less}
use Rattle.sets_of_table.specs.Placed.{placed_begin, placed_turn, placed_end}
use borrow.Author.Rules.{rules}
use Rattle.sets_of_table.proofs.number.place.Goals as goal

pub loop-i-init : goal.loop-i-init
loop-i-init c = rw c.into_iter-i-iterator.ensures.into_iter_gives ((refl, within_refl _ _ _, placed_begin _ _ _ _ _ (search rules) c.clear.ensures))

pub put_bit-requires : goal.put_bit-requires
put_bit-requires c =
    let low = c.in-Some.ensures.steps.0 in
    let inv = c.loop-i.invariant in
    let pre = c.requires in
    let cleared = within_cleared _ _ (omega arith) c.clear.ensures in
    (omega (arith, pre.1.each _ (walk_in inv.2.0 low), inv.0, pre.0, cleared.len), low.bound)

pub loop-i-preserved : goal.loop-i-preserved
loop-i-preserved c =
    let low = c.in-Some.ensures.steps.0 in
    let inv = c.loop-i.invariant in
    let put = c.put_bit.ensures in
    let small = c.requires.1.each _ (walk_in inv.2.0 low) in (
      put.frame.len ∙ inv.0,
      within_trans inv.1 (within_widen _ _ (omega arith) (omega (arith, small)) put.frame),
      placed_turn _ inv.2 low c.in-Some.ensures.steps.1 refl small put,
    )

pub returns : goal.returns
returns c =
    let inv = c.loop-i.invariant in
    placed_end _ c.in-None.ensures.steps.0 inv.2.1 (within_trans (within_cleared _ _ (omega arith) c.clear.ensures) inv.1)
