use Rattle.std.proofs.Common.{◌∙◌}
use Rattle.door_write.proofs.Laws.{min_capped}
use Rattle.door_write.specs.Parts.{agents_in}
use Rattle.door_write.proofs.parts.agents_in.Goals as goal

pub returns : goal.returns
unfolding agents_in
returns c = c.min.ensures ∙ min_capped _ _
