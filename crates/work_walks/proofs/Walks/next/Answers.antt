-- `next` meets its contract: the lowest bit that the row of steps and the layer share, where it is below n. Assumes nothing.
use native.Mathlib.Nat.{mul-le-mul_right}
use native.Mathlib.Omega.{arith}
use Rattle.finite.specs.Below.{least_inside, least_outside}
use Rattle.bits.specs.Matrix.{rel, row_apart}
use Rattle.work_sets.specs.Meet.{both}
use Rattle.work_walks.specs.Layers.{step_bit}
use Rattle.work_walks.proofs.Walks.next.Goals as goal

pub overflow_mul-z : goal.overflow_mul-z
overflow_mul-z g c = omega (arith, row_apart c.args.z c.args.n g.row.STRIDE c.requires.2)

pub overflow_add-self : goal.overflow_add-self
overflow_add-self g c = omega (arith, row_apart c.args.z c.args.n g.row.STRIDE c.requires.2)

pub overflow_mul-k : goal.overflow_mul-k
overflow_mul-k g c = omega (arith, mul-le-mul_right g.row.STRIDE c.requires.1)

pub overflow_add-self-2 : goal.overflow_add-self-2
overflow_add-self-2 g c =
    omega (arith, mul-le-mul_right g.row.STRIDE c.requires.1)

pub first_both-y-requires : goal.first_both-y-requires
first_both-y-requires g c = (
  omega (
    arith,
    row_apart c.args.z c.args.n g.row.STRIDE
        c.requires.2,
  ),
  omega (arith, mul-le-mul_right g.row.STRIDE c.requires.1),
  omega arith,
)

pub returns-then-y-n : goal.returns-then-y-n
unfolding both step_bit rel
returns-then-y-n g c =
    least_inside c.requires.0.room.0 c.first_both-y.ensures c.if-y-n.true

pub returns-else-y-n : goal.returns-else-y-n
unfolding both step_bit rel
returns-else-y-n g c =
    least_outside c.requires.0.room.0 c.first_both-y.ensures c.if-y-n.false
