use Rattle.sets_location.specs.Elements.{plain_shown_lem}
use Rattle.sets_location.proofs.part.plain_visible.Goals as goal

pub returns : goal.returns
returns c = plain_shown_lem _ _ _ _ _ _ _ c.rows.ensures c.rows-2.ensures c.bitand-plain.ensures c.get.ensures c.bitand.ensures
