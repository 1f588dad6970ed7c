use mathlib.Core.Path.{sym, ◌∙◌}
use Rattle.sets_happens.specs.Behind.{from_node, from_other}
use Rattle.sets_happens.proofs.from_row.Goals as goal

pub returns-then-has : goal.returns-then-has
returns-then-has c =
    λ d ends q. from_node q _ c.requires.0 (sym c.has.ensures ∙ c.if-has.true) c.get.ensures

pub returns : goal.returns
returns c =
    λ d ends q. from_other q _ _ _ c.requires.0 (sym c.has.ensures ∙ c.if-has.false) c.after.ensures c.bitand.ensures c.by_release.ensures
