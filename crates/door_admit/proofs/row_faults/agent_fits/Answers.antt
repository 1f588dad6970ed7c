use Rattle.model.specs.RowFault.{agent_fits}
use Rattle.door_admit.proofs.row_faults.agent_fits.Goals as goal

pub returns : goal.returns
unfolding agent_fits
returns c = cc
