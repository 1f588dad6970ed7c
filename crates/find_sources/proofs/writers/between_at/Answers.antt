use mathlib.Core.Path.{ap, ap₂, ◌∙◌}
use Rattle.finite.specs.Logic.{◌and◌, ◌or◌}
use Rattle.model.specs.Row.{writes}
use Rattle.model.specs.Table.{decode}
use Rattle.model.specs.Fill.{between}
use Rattle.find_sources.specs.Choice.{and_stop, writer_told}
use Rattle.find_sources.proofs.writers.between_at.Goals as goal

pub returns-then-not-writes : goal.returns-then-not-writes
unfolding between decode
returns-then-not-writes c = and_stop _ _ _ (c.writes.ensures ∙ ap writes c.row-v.ensures) c.if-not-writes.true

pub returns : goal.returns
unfolding decode ◌and◌ ◌or◌
returns c =
    let d = c.writes.ensures ∙ ap writes c.row-v.ensures in
    writer_told _ _ _ _ _ _ _ d c.if-not-writes.false
    (ap₂ ◌and◌ c.follows_at.ensures c.before_some.ensures) c.some_hidden.ensures
