use mathlib.Core.Path.{◌≡◌, refl}
use native.Mathlib.Omega.{arith}
use Rattle.finite.specs.Below.{least_none}
use Rattle.bits.specs.Matrix.{row_apart}
use Rattle.work_walks.proofs.Rounds.{rounds_none, rounds_more, rounds_on, rounds_until, rounds_never}
use borrow.Author.Rules.{rules}
use Rattle.work_walks.proofs.Walks.fill_until.Goals as goal

pub loop-k-init : goal.loop-k-init
loop-k-init g c =
    (search rules, refl, rounds_none _ _ _ _ c.requires.0.room.0 c.requires.0.apart _ _ _ _ c.requires.1 c.requires.0.room.1 c.clear.ensures c.put.ensures, least_none _)

pub overflow_mul-k : goal.overflow_mul-k
overflow_mul-k g c =
    let a = c.args in omega (arith, row_apart c.loop-k.k a.n g.row.STRIDE c.loop-k-test.true)

pub overflow_add-layers-in-loop-k : goal.overflow_add-layers-in-loop-k
overflow_add-layers-in-loop-k g c =
    let a = c.args in omega (arith, row_apart c.loop-k.k a.n g.row.STRIDE c.loop-k-test.true)

pub overflow_add-layers-in-loop-k-2 : goal.overflow_add-layers-in-loop-k-2
overflow_add-layers-in-loop-k-2 g c =
    let a = c.args in omega (arith, row_apart c.loop-k.k a.n g.row.STRIDE c.loop-k-test.true)

pub overflow_mul-layers-in-loop-k : goal.overflow_mul-layers-in-loop-k
overflow_mul-layers-in-loop-k g c =
    let a = c.args in omega (arith, row_apart c.loop-k.k a.n g.row.STRIDE c.loop-k-test.true)

pub overflow_add-layers-in-loop-k-3 : goal.overflow_add-layers-in-loop-k-3
overflow_add-layers-in-loop-k-3 g c =
    let a = c.args in omega (arith, row_apart c.loop-k.k a.n g.row.STRIDE c.loop-k-test.true)

pub get-requires : goal.get-requires
get-requires g c =
    let inv = c.loop-k.invariant in
    let made = rounds_more _ _ _ _ c.requires.0.room.0 c.requires.0.apart _ _ _ _ _ (search rules) c.loop-k-test.true inv.2 c.fill_after.ensures in
    let l = made.frame.len in
    let r = row_apart c.loop-k.k c.args.n g.row.STRIDE c.loop-k-test.true in
    omega (arith, l, r)

pub shape_of-w-then-get : goal.shape_of-w-then-get
shape_of-w-then-get g c =
    let inv = c.loop-k.invariant in
    let made = rounds_more _ _ _ _ c.requires.0.room.0 c.requires.0.apart _ _ _ _ _ (search rules) c.loop-k-test.true inv.2 c.fill_after.ensures in
    (rounds_until _ _ _ _ c.requires.0.room.0 c.requires.0.apart _ _ _ _ c.requires.1 c.requires.0.room.1 c.clear.ensures c.put.ensures _ c.loop-k-test.true made c.get.ensures c.if-get.true inv.3).1.len

pub returns-then-get : goal.returns-then-get
returns-then-get g c =
    let inv = c.loop-k.invariant in
    let made = rounds_more _ _ _ _ c.requires.0.room.0 c.requires.0.apart _ _ _ _ _ (search rules) c.loop-k-test.true inv.2 c.fill_after.ensures in
    rounds_until _ _ _ _ c.requires.0.room.0 c.requires.0.apart _ _ _ _ c.requires.1 c.requires.0.room.1 c.clear.ensures c.put.ensures _ c.loop-k-test.true made c.get.ensures c.if-get.true inv.3

pub loop-k-preserved : goal.loop-k-preserved
loop-k-preserved g c =
    let inv = c.loop-k.invariant in
    let made = rounds_more _ _ _ _ c.requires.0.room.0 c.requires.0.apart _ _ _ _ _ (search rules) c.loop-k-test.true inv.2 c.fill_after.ensures in
    (search rules, made.frame.len, made, rounds_on _ _ _ _ c.requires.0.room.0 c.requires.0.apart _ _ _ _ c.requires.1 c.requires.0.room.1 c.clear.ensures c.put.ensures _ c.loop-k-test.true made c.get.ensures c.if-get.false inv.3)

pub shape_of-w : goal.shape_of-w
shape_of-w g c =
    let e : c.loop-k.k ≡ c.args.n = omega arith in
    (rounds_never _ _ _ _ c.requires.0.room.0 c.requires.0.apart _ _ _ _ c.requires.1 c.requires.0.room.1 c.clear.ensures c.put.ensures (rw e at c.loop-k.invariant.2) (rw e at c.loop-k.invariant.3)).1.len

pub returns : goal.returns
returns g c =
    let e : c.loop-k.k ≡ c.args.n = omega arith in
    rounds_never _ _ _ _ c.requires.0.room.0 c.requires.0.apart _ _ _ _ c.requires.1 c.requires.0.room.1 c.clear.ensures c.put.ensures (rw e at c.loop-k.invariant.2) (rw e at c.loop-k.invariant.3)
