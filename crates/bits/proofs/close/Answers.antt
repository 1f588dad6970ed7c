use mathlib.Core.Path.{◌≡◌, sym, ◌∙◌}
use native.Mathlib.Omega.{arith}
use Rattle.bits.specs.Matrix.{rel, row_apart, rows_apart}
use Rattle.bits.proofs.Rounds.{phase_none, phase_skip, phase_join, rounds_none, rounds_more, rounds_closed}
use Rattle.bits.proofs.close.Goals as goal
use Rattle.bits.proofs.close.Goals.{then-get_at, else-get_at}

pub loop-k-init : goal.loop-k-init
loop-k-init c = rounds_none _ _ _ _

pub overflow_mul-src : goal.overflow_mul-src
overflow_mul-src c = let a = c.args in omega (arith, row_apart c.loop-k.k a.n a.stride c.loop-k-test.true)

pub overflow_add-src : goal.overflow_add-src
overflow_add-src c = let a = c.args in omega (arith, row_apart c.loop-k.k a.n a.stride c.loop-k-test.true)

pub loop-i-init : goal.loop-i-init
loop-i-init c = phase_none _ _ _ _ _

pub overflow_mul-dst : goal.overflow_mul-dst
overflow_mul-dst c =
    let a = c.args in
    omega (arith, row_apart c.loop-i.i a.n a.stride c.loop-i-test.true)

pub overflow_add-dst : goal.overflow_add-dst
overflow_add-dst c =
    let a = c.args in
    omega (arith, row_apart c.loop-i.i a.n a.stride c.loop-i-test.true)

pub get_at-requires : goal.get_at-requires
get_at-requires c =
    let a = c.args in
    let row_i = row_apart c.loop-i.i a.n a.stride c.loop-i-test.true in
    let row_k = row_apart c.loop-k.k a.n a.stride c.loop-k-test.true in
    omega (arith, row_i, row_k)

pub join_row-requires : goal.join_row-requires
join_row-requires c =
    let a = c.args in
    let i = c.loop-i.i in
    let k = c.loop-k.k in
    let row_i = row_apart i a.n a.stride c.loop-i-test.true in
    let row_k = row_apart k a.n a.stride c.loop-k-test.true in
    (omega (arith, row_i), omega (arith, row_k), rows_apart a.base k i a.stride)

pub loop-i-preserved : goal.loop-i-preserved
unfolding rel
loop-i-preserved c =
    let a = c.args in
    let i = c.loop-i.i in
    let k = c.loop-k.k in
    let w = c.loop-i.w in
    let inv = c.loop-i.invariant in
    let below_i = c.loop-i-test.true in
    let below_k = c.loop-k-test.true in
    let fits = c.requires.2 in
    let test = sym c.get_at.ensures in
    elim c.if-get_at.branch [
      | then-get_at v ↦
          phase_join c.loop-k.w w a.base a.n a.stride k i inv below_i below_k fits c.if-get_at.w (omega arith) (v.w-is ∙ v.join_row.ensures) (test ∙ v.if-get_at.true)
      | else-get_at v ↦ rw v.w-is (phase_skip c.loop-k.w w a.base a.n a.stride k i inv below_i below_k fits (test ∙ v.if-get_at.false))
    ]

pub loop-k-preserved : goal.loop-k-preserved
loop-k-preserved c =
    let e : c.loop-i.i ≡ c.args.n = omega arith in
    let fits = c.requires.2 in
    rounds_more _ c.loop-k.w c.loop-i.w _ _ _ c.loop-k.k c.loop-k-test.true fits c.loop-k.invariant
    (rw e at c.loop-i.invariant)

pub returns : goal.returns
returns c =
    let e : c.loop-k.k ≡ c.args.n = omega arith in
    rounds_closed _ _ _ _ _ (rw e at c.loop-k.invariant)
