use Rattle.door_write.proofs.Laws.{parts_out}
use Rattle.door_write.proofs.parts.write_parts.Goals as goal

pub returns : goal.returns
returns c =
    parts_out _ _ _ _ c.agents_in-agents.ensures
    c.places_in-p.ensures
    c.rows_in-count.ensures c.entries_in-entries.ensures
    c.dependencies_in-d.ensures _ _ _ _ c.write.ensures
