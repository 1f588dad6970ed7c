use Rattle.finite.specs.Logic.{and_false_left, and_on}
use borrow.Author.Tests.{not-false}
use mathlib.Core.Path.{sym, ◌∙◌}
use mathlib.Core.Path.{ap}
use mathlib.Core.Bool.{not}
use Rattle.flags_location.proofs.domains.l5.Goals as goal

pub returns-then-not-writes : goal.returns-then-not-writes
returns-then-not-writes c = sym (and_false_left _ _ (rw (← c.row-r.ensures) (sym c.writes.ensures ∙ c.if-not-writes.true)))

pub returns : goal.returns
returns c =
    rw (← c.row-r.ensures, ← c.available_kind.ensures)
    (c.is_onward.ensures ∙ sym (and_on _ _ (sym c.writes.ensures ∙ not-false _ (ap not c.if-not-writes.false))))
