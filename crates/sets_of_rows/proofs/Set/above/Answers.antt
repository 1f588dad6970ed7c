use Rattle.sets_of_rows.specs.Member.{above_low, above_high}
use borrow.Author.Rules.{rules}
use Rattle.sets_of_rows.proofs.Set.above.Goals as goal

pub returns-then-i-lt-WORD : goal.returns-then-i-lt-WORD
returns-then-i-lt-WORD c = above_low _ (search rules)

pub returns-else-i-lt-WORD : goal.returns-else-i-lt-WORD
returns-else-i-lt-WORD c = above_high _ (search rules) (search rules)
