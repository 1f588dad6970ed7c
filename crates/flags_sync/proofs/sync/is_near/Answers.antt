use mathlib.Core.Path.{sym, ◌∙◌}
use Rattle.finite.specs.Logic.{and_false_left, and_on}
use Rattle.flags_sync.proofs.sync.is_near.Goals as goal

pub returns-then-not-asked : goal.returns-then-not-asked
returns-then-not-asked c = sym (and_false_left _ _ c.if-not-asked.true)

pub returns : goal.returns
returns c = c.together.ensures ∙ sym (and_on _ _ c.if-not-asked.false)
