use mathlib.Core.Path.{sym, ◌∙◌}
use Rattle.flags_order.specs.Sets.{added_set, added_not}
use Rattle.flags_order.proofs.add_set.Goals as goal

pub returns-then-is_live : goal.returns-then-is_live
returns-then-is_live c =
    added_set _ _ _ _ _ c.args.w.now _ _ _ c.requires.2.mutuals.fits c.requires.1
    (sym c.is_live.ensures ∙ c.if-is_live.true) c.fill_step.ensures c.close.ensures
    c.join_row.ensures

pub returns-else-is_live : goal.returns-else-is_live
returns-else-is_live c = added_not _ _ _ _ _ _ (sym c.is_live.ensures ∙ c.if-is_live.false)
