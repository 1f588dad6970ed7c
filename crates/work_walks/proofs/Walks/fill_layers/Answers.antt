use mathlib.Core.Path.{◌≡◌, refl}
use native.Mathlib.Omega.{arith}
use Rattle.bits.specs.Matrix.{rel, row_apart}
use Rattle.work_sets.specs.Meet.{least_empty}
use Rattle.work_walks.proofs.Rounds.{rounds_none, rounds_more, rounds_empty, rounds_done}
use borrow.Author.Rules.{rules}
use Rattle.work_walks.proofs.Walks.fill_layers.Goals as goal

pub loop-k-init : goal.loop-k-init
loop-k-init g c = (
  search rules,
  refl,
  rounds_none _ _ _ _ c.requires.0.room.0 c.requires.0.apart _ _ _ _ c.requires.1 c.requires.0.room.1
      c.clear.ensures c.put.ensures,
)

pub overflow_mul-at : goal.overflow_mul-at
overflow_mul-at g c =
    let row = row_apart c.loop-k.k c.args.n g.row.STRIDE c.loop-k-test.true in
    omega (arith, row)

pub overflow_add-at : goal.overflow_add-at
overflow_add-at g c =
    let row = row_apart c.loop-k.k c.args.n g.row.STRIDE c.loop-k-test.true in
    omega (arith, row)

pub first_both-requires : goal.first_both-requires
first_both-requires g c =
    let row = row_apart c.loop-k.k c.args.n g.row.STRIDE c.loop-k-test.true in
    (omega (arith, row), omega (arith, row), omega (arith, row))

pub returns-then-first_both : goal.returns-then-first_both
unfolding rel
returns-then-first_both g c =
    let fits = c.requires.0.room.0 in
    rounds_done _ _ _ _ fits c.requires.0.apart _ _ _ _ c.requires.1 c.requires.0.room.1 c.clear.ensures c.put.ensures
    (rounds_empty _ _ _ _ fits c.requires.0.apart _ _ _ _ (search rules)
    (λ z b. least_empty _ _ _ _ c.first_both.ensures c.if-first_both.true z (omega arith)) c.loop-k.invariant.2)

pub loop-k-preserved : goal.loop-k-preserved
loop-k-preserved g c =
    let more = rounds_more _ _ _ _ c.requires.0.room.0 c.requires.0.apart _ _ _ _ _ (search rules)
    c.loop-k-test.true c.loop-k.invariant.2
    c.fill_after.ensures in
    (search rules, more.frame.len, more)

pub returns : goal.returns
returns g c =
    let e : c.loop-k.k ≡ c.args.n = omega arith in
    rounds_done _ _ _ _ c.requires.0.room.0 c.requires.0.apart _ _ _ _ c.requires.1 c.requires.0.room.1 c.clear.ensures
    c.put.ensures (rw e at c.loop-k.invariant.2)
