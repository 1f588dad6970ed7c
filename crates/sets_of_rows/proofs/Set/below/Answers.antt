use Rattle.sets_of_rows.specs.Member.{below_low, below_high}
use borrow.Author.Rules.{rules}
use Rattle.sets_of_rows.proofs.Set.below.Goals as goal

pub returns-then-n-lt-WORD : goal.returns-then-n-lt-WORD
returns-then-n-lt-WORD c = below_low _ _ (search rules) c.low.ensures

pub returns-else-n-lt-WORD : goal.returns-else-n-lt-WORD
returns-else-n-lt-WORD c = below_high _ _ (search rules) (search rules) c.low-else-n-lt-WORD.ensures
