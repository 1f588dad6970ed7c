use Rattle.std.proofs.Common.{◌∙◌}
use Rattle.door_write.proofs.Laws.{min_capped}
use Rattle.door_write.specs.Parts.{rows_in}
use Rattle.door_write.proofs.parts.rows_in.Goals as goal

pub returns : goal.returns
unfolding rows_in
returns c = c.min.ensures ∙ min_capped _ _
