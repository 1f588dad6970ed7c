use mathlib.Core.Path.{◌≡◌, refl, ap, ◌∙◌}
use native.Mathlib.Omega.{arith}
use lib.ListN.{length}
use Rattle.bits.specs.Matrix.{row_apart}
use Rattle.bits.specs.Fill.{row_fill_none, row_fill_put, length_row_fill}
use Rattle.work_walks.proofs.Rounds.{turn_test}
use borrow.Author.Rules.{rules}
use Rattle.work_walks.proofs.Walks.fill_after.Goals as goal

pub overflow_mul-at : goal.overflow_mul-at
overflow_mul-at g c = let a = c.args in omega (arith, row_apart a.k a.n g.row.STRIDE c.requires.1)

pub overflow_add-at : goal.overflow_add-at
overflow_add-at g c = let a = c.args in omega (arith, row_apart a.k a.n g.row.STRIDE c.requires.1)

pub overflow_add-at-2 : goal.overflow_add-at-2
overflow_add-at-2 g c = let a = c.args in omega (arith, row_apart a.k a.n g.row.STRIDE c.requires.1)

pub overflow_mul-at-2 : goal.overflow_mul-at-2
overflow_mul-at-2 g c = let a = c.args in omega (arith, row_apart a.k a.n g.row.STRIDE c.requires.1)

pub loop-z-init : goal.loop-z-init
loop-z-init g c = (search rules, refl, row_fill_none _ _ _)

pub overflow_add-at-in-loop-z : goal.overflow_add-at-in-loop-z
overflow_add-at-in-loop-z g c =
    omega (arith, row_apart c.args.k c.args.n g.row.STRIDE c.requires.1)

pub put_if-requires : goal.put_if-requires
put_if-requires g c =
    omega (arith, row_apart c.args.k c.args.n g.row.STRIDE c.requires.1)

pub loop-z-preserved : goal.loop-z-preserved
loop-z-preserved g c =
    let put = c.put_if in
    let inv = c.loop-z.invariant in
    let t = turn_test _ _ _ _ c.requires.0.room.0 c.requires.0.apart _ _ _ _ _ inv.2 _ _ c.loop-z-test.true c.next-y.ensures in
    let e = row_fill_put _ _ _ put.new.w _ _ _ _ inv.2 t refl put.ensures in
    (search rules, ap length e ∙ length_row_fill _ _ _ _, e)

pub returns : goal.returns
returns g c =
    let e : c.loop-z.z ≡ c.args.n = omega arith in
    rw e at c.loop-z.invariant.2
