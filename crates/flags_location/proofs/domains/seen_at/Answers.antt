use Rattle.flags_location.specs.Domains.{seen_bits}
use Rattle.finite.specs.Logic.{and_false_left, and_on}
use borrow.Author.Tests.{not-false}
use mathlib.Core.Path.{sym, ◌∙◌}
use mathlib.Core.Path.{ap}
use mathlib.Core.Bool.{not}
use Rattle.flags_location.proofs.domains.seen_at.Goals as goal

pub returns-then-not-thence_at : goal.returns-then-not-thence_at
unfolding seen_bits
returns-then-not-thence_at c = sym (and_false_left _ _ (sym c.thence_at.ensures ∙ c.if-not-thence_at.true))

pub returns : goal.returns
unfolding seen_bits
returns c = c.happens_bit.ensures ∙ sym (and_on _ _ (sym c.thence_at.ensures ∙ not-false _ (ap not c.if-not-thence_at.false)))
