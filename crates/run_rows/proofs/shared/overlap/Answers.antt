use Rattle.model.specs.Row.{is_shared, overlap}
use Rattle.run_rows.proofs.shared.overlap.Goals as goal

pub returns : goal.returns
unfolding overlap is_shared
returns c = cc
