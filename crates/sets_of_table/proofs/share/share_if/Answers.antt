use mathlib.Core.Path.{sym, ◌∙◌}
use Rattle.sets_of_table.specs.Share.{if_shared, if_none}
use Rattle.sets_of_table.proofs.share.share_if.Goals as goal

pub returns-then-has_any : goal.returns-then-has_any
returns-then-has_any c = if_shared c.share_one.ensures

pub returns-else-has_any : goal.returns-else-has_any
returns-else-has_any c = if_none _ _ _ _ c.get.ensures (sym c.has_any.ensures ∙ c.if-has_any.false)
