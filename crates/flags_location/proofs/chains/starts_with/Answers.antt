use mathlib.Core.Path.{sym, ◌∙◌}
use borrow.Author.Tests.{not-false}
use Rattle.finite.specs.Logic.{and_false_left, and_on}
use Rattle.flags_location.specs.Chains.{starts_row}
use mathlib.Core.Path.{ap}
use mathlib.Core.Bool.{not}
use Rattle.flags_location.proofs.chains.starts_with.Goals as goal

pub returns-then-not-get : goal.returns-then-not-get
returns-then-not-get c =
    let pre = c.requires in
    sym (starts_row pre.element.pair _ _ _ pre.chains pre.last pre.next c.get.ensures
    ∙ and_false_left _ _ c.if-not-get.true)

pub returns : goal.returns
returns c =
    let pre = c.requires in
    c.seen_at.ensures ∙ sym (starts_row pre.element.pair _ _ _ pre.chains pre.last pre.next c.get.ensures
    ∙ and_on _ _ (not-false _ (ap not c.if-not-get.false)))
