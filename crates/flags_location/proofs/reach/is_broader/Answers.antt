use mathlib.Core.Path.{sym, ◌∙◌}
use borrow.Author.Tests.{lt-ltb, le-ltb}
use Rattle.finite.specs.Logic.{and_false_left, and_on}
use Rattle.flags_location.specs.Reach.{broader_rows}
use Rattle.flags_location.proofs.reach.is_broader.Goals as goal

pub returns-then-u-s : goal.returns-then-u-s
unfolding broader_rows
returns-then-u-s c = sym (and_false_left _ _ (le-ltb _ _ c.if-u-s.true))

pub returns : goal.returns
unfolding broader_rows
returns c = c.shares.ensures ∙ sym (and_on _ _ (lt-ltb _ _ c.if-u-s.false))
