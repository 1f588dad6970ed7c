use Rattle.std.proofs.Common.{arith, rules, ◌≡◌}
use lib.Count.{trailing_le}
use Rattle.sets_of_rows.specs.First.{none_any, first_low, first_high}
use Rattle.sets_of_rows.proofs.Set.first.Goals as goal

pub overflow_cast-result : goal.overflow_cast-result
overflow_cast-result c = omega (arith, trailing_le 64 c.args.self.lo)

pub overflow_cast-result-then-self-gt0-2 : goal.overflow_cast-result-then-self-gt0-2
overflow_cast-result-then-self-gt0-2 c = omega (arith, trailing_le 64 c.args.self.hi)

pub overflow_add-result : goal.overflow_add-result
overflow_add-result c = omega (arith, trailing_le 64 c.args.self.hi)

pub returns-then-self-gt0 : goal.returns-then-self-gt0
returns-then-self-gt0 c = first_low c.args.self (search rules) (search rules)

pub returns-then-self-gt0-2 : goal.returns-then-self-gt0-2
returns-then-self-gt0-2 c =
    let e : c.args.self.lo ≡ 0 = omega arith in
    first_high c.args.self e (search rules) (search rules)

pub returns : goal.returns
returns c =
    let e : c.args.self.lo ≡ 0 = omega arith in
    let f : c.args.self.hi ≡ 0 = omega arith in
    none_any c.args.self e f
