use borrow.Author.Tests.{lt-ltb, le-ltb}
use Rattle.ask_check.proofs.show.next_of.Goals as goal

pub returns-then-i-size : goal.returns-then-i-size
returns-then-i-size c = simp (lt-ltb _ _ c.if-i-size.true) c.wide.ensures

pub returns-else-i-size : goal.returns-else-i-size
returns-else-i-size c = simp (le-ltb _ _ c.if-i-size.false)
