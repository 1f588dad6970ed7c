use Rattle.flags_location.specs.Domains.{thence_bits}
use Rattle.finite.specs.Logic.{and_false_left, and_on}
use mathlib.Core.Path.{sym, ◌∙◌}
use borrow.Author.Tests.{ne_eqb}
use borrow.Author.Tests.{eq-eqb}
use Rattle.flags_location.proofs.domains.thence_at.Goals as goal

pub returns-then-not-kind : goal.returns-then-not-kind
unfolding thence_bits
returns-then-not-kind c = sym (and_false_left _ _ (rw (← c.kind.ensures) (ne_eqb _ _ c.if-not-kind.true)))

pub returns : goal.returns
unfolding thence_bits
returns c = c.happens_bit.ensures ∙ sym (and_on _ _ (rw (← c.kind.ensures) (eq-eqb _ _ c.if-not-kind.false)))
