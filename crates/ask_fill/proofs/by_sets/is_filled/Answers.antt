use mathlib.Core.Path.{sym, ◌∙◌}
use Rattle.work_area.specs.Regions.{EDGE, LAYERS_END}
use Rattle.bits.specs.Within.{within_refl}
use Rattle.find_sources.specs.Choice.{and_stop, and_go}
use Rattle.ask_fill.specs.Parts.{sourced_fit}
use Rattle.ask_fill.proofs.by_sets.is_filled.Goals as goal

pub returns-then-not-sources_fit : goal.returns-then-not-sources_fit
returns-then-not-sources_fit c = (and_stop _ _ _ c.sources_fit.ensures c.if-not-sources_fit.true, within_refl EDGE LAYERS_END _)

pub is_consistent-requires : goal.is_consistent-requires
is_consistent-requires c =
    let pre = c.requires in
    let fit = c.sources_fit.ensures in
    (record { each = pre.0; sourced = sourced_fit _ _ (sym fit ∙ c.if-not-sources_fit.false) }, pre.1)

pub returns : goal.returns
returns c =
    let told = c.is_consistent.ensures in
    (and_go _ _ _ _ c.sources_fit.ensures c.if-not-sources_fit.false told.0, told.1)
