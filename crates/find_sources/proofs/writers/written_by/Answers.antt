use mathlib.Core.Path.{ap, ◌∙◌}
use Rattle.model.specs.Row.{writes}
use Rattle.model.specs.Table.{decode}
use Rattle.model.specs.Fill.{written_by}
use Rattle.find_sources.specs.Choice.{and_stop, and_go}
use Rattle.find_sources.proofs.writers.written_by.Goals as goal

pub returns-then-not-writes : goal.returns-then-not-writes
unfolding written_by decode
returns-then-not-writes c = and_stop _ _ _ (c.writes.ensures ∙ ap writes c.row-r.ensures) c.if-not-writes.true

pub returns : goal.returns
unfolding written_by decode
returns c = and_go _ _ _ _ (c.writes.ensures ∙ ap writes c.row-r.ensures)
    c.if-not-writes.false c.before_some.ensures
