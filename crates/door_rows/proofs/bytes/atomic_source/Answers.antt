use Rattle.std.proofs.Common.{sym, ap, ◌∙◌}
use Rattle.model.specs.Row.{atomic}
use Rattle.model.specs.Table.{atomic_source}
use Rattle.door_rows.proofs.bytes.atomic_source.Goals as goal

pub returns-then-is_atomic : goal.returns-then-is_atomic
unfolding atomic_source
returns-then-is_atomic c = simp (ap atomic (sym c.read_row-r.ensures) ∙ sym c.is_atomic.ensures
    ∙ c.if-is_atomic.true) c.read_source.ensures

pub returns : goal.returns
unfolding atomic_source
returns c = simp (ap atomic (sym c.read_row-r.ensures) ∙ sym c.is_atomic.ensures ∙ c.if-is_atomic.false)
