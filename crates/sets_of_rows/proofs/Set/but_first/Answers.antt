use Rattle.sets_of_rows.specs.First.{high_some, rest_low, rest_high}
use mathlib.Core.Path.{◌≡◌}
use native.Mathlib.Omega.{arith}
use borrow.Author.Rules.{rules}
use Rattle.sets_of_rows.proofs.Set.but_first.Goals as goal

pub overflow_sub-result-else-self-gt0 : goal.overflow_sub-result-else-self-gt0
overflow_sub-result-else-self-gt0 c =
    let e : c.args.self.lo ≡ 0 = omega arith in
    high_some c.args.self e c.requires

pub returns-then-self-gt0 : goal.returns-then-self-gt0
returns-then-self-gt0 c = rest_low c.args.self (search rules) (search rules)

pub returns-else-self-gt0 : goal.returns-else-self-gt0
returns-else-self-gt0 c =
    let e : c.args.self.lo ≡ 0 = omega arith in
    rest_high c.args.self e (high_some c.args.self e c.requires) (search rules)
