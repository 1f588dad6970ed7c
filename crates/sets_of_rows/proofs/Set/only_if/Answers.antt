use mathlib.Core.Path.{sym, ◌∙◌}
use Rattle.finite.specs.Logic.{and_on, and_false_left}
use Rattle.sets_of_rows.proofs.Set.only_if.Goals as goal

pub returns-then-b : goal.returns-then-b
returns-then-b c = λ j. sym (and_on _ _ c.if-b.true)

pub returns-else-b : goal.returns-else-b
returns-else-b c = λ j. c.none.ensures j ∙ sym (and_false_left _ _ c.if-b.false)
