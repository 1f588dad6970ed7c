use mathlib.Core.Path.{◌∙◌}
use Rattle.bits.specs.Within.{within_refl, within_trans, within_widen, within_cleared}
use Rattle.sets_grids.specs.Regions.{DEPENDS, DEPENDS_END}
use Rattle.sets_happens.specs.Adding.{empty_cleared}
use Rattle.sets_order.specs.Depends.{depends_begin, depends_turn, depends_end, few_run, named_at}
use borrow.Author.Rules.{rules}
use native.Mathlib.Omega.{arith}
use Rattle.sets_order.proofs.system.fill_depends.Goals as goal

pub clear-requires : goal.clear-requires
clear-requires c = let a = c.requires.1 in omega arith

pub loop-k-init : goal.loop-k-init
loop-k-init c =
    let pre = c.requires in (
      search rules,
      c.dependencies-k-end.ensures,
      depends_begin _ _ _ _ _ (empty_cleared DEPENDS DEPENDS DEPENDS_END _ (omega arith) (omega arith) (let a = pre.1 in omega arith) c.clear.ensures) c.none-ends.ensures,
      within_refl _ _ _,
    )

pub put_bit-requires : goal.put_bit-requires
put_bit-requires c =
    let pre = c.requires in
    let inv = c.loop-k.invariant in
    let l = c.loop-k-test.true in
    let e = inv.1 in
    let h = named_at pre.0 c.loop-k.k (omega (arith, l, e)) in
    let low = few_run pre.0 in
    let x = c.first_of-x.ensures in
    let y = c.second_of-y.ensures in
    let r = pre.1 in
    let d = inv.3.len in
    let f = (within_cleared DEPENDS DEPENDS_END (omega arith) c.clear.ensures).len in
    (omega (arith, x, h.0), omega (arith, y, h.1))

pub bit-requires : goal.bit-requires
bit-requires c =
    let pre = c.requires in
    let inv = c.loop-k.invariant in
    let l = c.loop-k-test.true in
    let e = inv.1 in
    let h = named_at pre.0 c.loop-k.k (omega (arith, l, e)) in
    let low = few_run pre.0 in
    let x = c.first_of-x.ensures in
    omega (arith, x, h.0)

pub bit-requires-in-loop-k : goal.bit-requires-in-loop-k
bit-requires-in-loop-k c =
    let pre = c.requires in
    let inv = c.loop-k.invariant in
    let l = c.loop-k-test.true in
    let e = inv.1 in
    let h = named_at pre.0 c.loop-k.k (omega (arith, l, e)) in
    let low = few_run pre.0 in
    let y = c.second_of-y.ensures in
    omega (arith, y, h.1)

pub loop-k-preserved : goal.loop-k-preserved
loop-k-preserved c =
    let pre = c.requires in
    let inv = c.loop-k.invariant in
    let l = c.loop-k-test.true in
    let e = inv.1 in
    let h = named_at pre.0 c.loop-k.k (omega (arith, l, e)) in
    let low = few_run pre.0 in
    let x = c.first_of-x.ensures in
    let y = c.second_of-y.ensures in
    let put = c.put_bit.ensures in (
      search rules,
      e,
      depends_turn _ _ _ _ x y (omega (arith, x, h.0)) (omega (arith, y, h.1)) low inv.2 put c.bit.ensures c.bit-in-loop-k.ensures c.bitor.ensures c.bitor_assign.ensures.after,
      within_trans inv.3 (within_widen DEPENDS DEPENDS_END (omega arith) (omega (arith, x, h.0, low)) put.frame),
    )

pub shape_of-w : goal.shape_of-w
shape_of-w c =
    c.loop-k.invariant.3.len ∙ (within_cleared DEPENDS DEPENDS_END (omega arith) c.clear.ensures).len

pub returns : goal.returns
returns c =
    let inv = c.loop-k.invariant in
    let e = inv.1 in
    depends_end c.requires.0 (omega (arith, e, c.loop-k-test.false, inv.0)) inv.2 (within_trans (within_cleared DEPENDS DEPENDS_END (omega arith) c.clear.ensures) inv.3)
