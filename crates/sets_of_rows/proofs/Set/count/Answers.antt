use Rattle.sets_of_rows.specs.First.{count_is, few_ones}
use native.Mathlib.Omega.{arith}
use borrow.Author.Rules.{rules}
use Rattle.sets_of_rows.proofs.Set.count.Goals as goal

pub overflow_cast-result : goal.overflow_cast-result
overflow_cast-result c = omega (arith, few_ones c.args.self.lo (search rules))

pub overflow_cast-result-2 : goal.overflow_cast-result-2
overflow_cast-result-2 c = omega (arith, few_ones c.args.self.hi (search rules))

pub overflow_add-result : goal.overflow_add-result
overflow_add-result c =
    let a = c.args.self in
    omega (arith, few_ones a.lo (search rules), few_ones a.hi (search rules))

pub returns : goal.returns
returns c =
    let a = c.args.self in
    (count_is a (search rules) (search rules), omega (arith, few_ones a.lo (search rules), few_ones a.hi (search rules)))
