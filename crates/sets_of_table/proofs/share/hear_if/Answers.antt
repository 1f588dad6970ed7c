use mathlib.Core.Path.{sym, ◌∙◌}
use Rattle.sets_of_table.specs.Hears.{heard_some, heard_off}
use Rattle.sets_of_table.proofs.share.hear_if.Goals as goal

pub returns-then-has_any : goal.returns-then-has_any
returns-then-has_any c = heard_some c.heard-x.ensures c.put.ensures

pub returns-else-has_any : goal.returns-else-has_any
returns-else-has_any c = heard_off _ _ _ c.get.ensures (sym c.has_any.ensures ∙ c.if-has_any.false)
