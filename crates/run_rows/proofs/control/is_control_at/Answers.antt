use Rattle.model.specs.Row.{control}
use Rattle.model.specs.Table.{row_of}
use Rattle.run_rows.proofs.control.is_control_at.Goals as goal

pub returns : goal.returns
unfolding control row_of
returns c = cc
