use Rattle.sets_of_rows.specs.Member.{has_low, has_high}
use borrow.Author.Rules.{rules}
use Rattle.sets_of_rows.proofs.Set.has.Goals as goal

pub returns-then-i-lt-WORD : goal.returns-then-i-lt-WORD
returns-then-i-lt-WORD c = has_low _ _ (search rules)

pub returns : goal.returns
returns c = has_high _ _ (search rules) (search rules)
