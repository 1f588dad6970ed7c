use mathlib.Core.Path.{sym, ◌∙◌}
use Rattle.finite.specs.Logic.{and_false_left, and_on}
use Rattle.model.specs.Synchronizes.{carries_over}
use Rattle.model.specs.Table.{decode}
use Rattle.flags_sync.proofs.carriers.carries_over_at.Goals as goal

pub returns-then-not-leads_at : goal.returns-then-not-leads_at
unfolding carries_over
returns-then-not-leads_at c = sym (and_false_left _ _ (sym c.leads_at.ensures ∙ c.if-not-leads_at.true))

pub returns : goal.returns
unfolding carries_over decode
returns c = c.is_carried_in.ensures ∙ sym (and_on _ _ (sym c.leads_at.ensures ∙ c.if-not-leads_at.false))
