use Rattle.model.specs.Table.{row_of}
use Rattle.sets_of_table.proofs.fields.scope.Goals as goal

pub returns : goal.returns
unfolding row_of
returns c = cc
