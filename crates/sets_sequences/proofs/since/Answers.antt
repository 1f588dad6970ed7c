use mathlib.Core.Path.{refl}
use Rattle.sets_sequences.specs.Heads.{since}
use borrow.Author.Rules.{rules}
use Rattle.sets_sequences.proofs.since.Goals as goal

pub returns-then-counted : goal.returns-then-counted
unfolding since
returns-then-counted c = (rw c.if-counted.true c.age.ensures, search rules)

pub returns-else-counted : goal.returns-else-counted
unfolding since
returns-else-counted c = (rw c.if-counted.false refl, search rules)
