use mathlib.Core.Path.{sym, ◌∙◌}
use Rattle.sets_of_table.specs.Share.{adds_taken, adds_none}
use Rattle.sets_of_table.proofs.share.join_agent.Goals as goal

pub returns-then-has_any : goal.returns-then-has_any
returns-then-has_any c p d =
    adds_taken d c.get-v.ensures c.join_from.ensures

pub returns-else-has_any : goal.returns-else-has_any
returns-else-has_any c p d = adds_none p _ _ _ _ c.get-v.ensures (sym c.has_any.ensures ∙ c.if-has_any.false)
